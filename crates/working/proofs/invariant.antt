-- Why demand 3 holds: what is true of the section after every step of a list from fresh. docs/THEOREM.md, "The invariant", has its clauses in words.

-- the clauses, seen from one station, and that each kind of departure and of receipt keeps them
pub mod Invariant
-- what each station's vehicles left on, nearest their sender first: the lists that the clauses are stated over
pub mod Sides
-- ---- one step
-- what an act comes to: refused, a departure or a receipt; and what a receipt does to the desk
pub mod Plans
pub mod Receipts
-- a section stays well made: departures and receipts, then MEET
pub mod Made
pub mod Meeting
-- a step by its cases, and that it leaves a well-made section well made
pub mod Changes
-- every step keeps the invariant
pub mod Preserved
-- ---- the list
-- each vehicle present has its departure in the list
pub mod Told
-- of two vehicles that head towards one another both are OPEN or THROUGH
pub mod Opposed
-- two neighbours change places
pub mod Swap
-- what stands beside the invariant in a list that document 01's own step accepts throughout (T-02)
pub mod ReplyLast
