-- What a customer cites. The statements stand in specs/, in the files named; docs/THEOREM.md has each in plain words.

-- ---- of every list of steps
-- Demand 3, whole (specs/Demand3)
pub mod Demand3
-- what follows from it: no step of a list from fresh is refused with 5, and "not below 0" never acts
pub mod Corollaries
-- and no RETURN has an accepted entry of the other station beside it but its receipt
pub mod ReturnAlone
-- T-02: a list that document 01's own step accepts throughout is answered as before (specs/Document01); and such a list has no entry of kind 9
pub mod AsBefore
pub mod KindNine
-- T-04 and T-07: the two choices of a speed, and who has two figures (specs/Speeds)
pub mod Speeds
-- T-06: a section written as a position and read (specs/Positions); lists of stores and fetches on any shelf (specs/ShelfCalls); and lists of steps, stores and fetches
-- (specs/Calls)
pub mod Positions
pub mod ShelfCalls
pub mod Calls
-- T-08: a desk with a guest, and what became of the lists when 11 was dropped from RETURN (specs/Guests)
pub mod Guests
-- ---- of entries and logs
-- an entry written is read again as it was, and one that was read is written again to the same bytes (specs/RoundTrips)
pub mod WrittenThenRead
pub mod ReadThenWritten
-- reading a log ends (specs/RoundTrips)
pub mod ReadingEnds
-- a step reads its first entry alone
pub mod FirstEntry
-- a log is a list of demand 3, each step handed its own entry's bytes; so what is said of lists is said of logs
pub mod OwnBytes
-- two neighbouring entries of a log change places
pub mod LogSwap
-- the counts of refused entries at the end of a log (specs/Turns)
pub mod Counted
