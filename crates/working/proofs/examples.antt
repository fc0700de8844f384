-- The definitions on figures that are written out, in document 01's own numbers, so that a misreading which definition and code share shows here. All of it is computed.

-- short names for entries, desks and sections in figures, and what is opened to compute with them
pub mod Literals
pub mod Computing
-- ---- tables of document 01, row by row
-- the edges (a) to (l)
pub mod Edges
-- which bytes are an entry, with each end of each range
pub mod EntryTable
-- when a section is well made, clause by clause
pub mod MadeTable
-- each kind: what it is refused for, in rising order, and what it does to every figure of the section
pub mod KindTable
-- T-06: a section as 281 bytes, figure by figure, and bytes that are none
pub mod PositionTable
-- T-06: names, shelves, and what a store and a fetch leave
pub mod ShelfTable
-- sentences of document 01, each as one equation
pub mod Sentences
-- ---- lists and logs
-- document 01's session, and the second program's short logs with the answers that it gave
pub mod Session
pub mod ShortLogs
-- what demand 2 says of entries, written and read, and demand 1 of reading
pub mod OfEntries
-- what is shown of positions (T-06), of the choices of a speed (T-04, T-07), and of the counts of refused entries (T-01)
pub mod OfPositions
pub mod OfSpeeds
pub mod OfCounts
-- demand 3 and the turns of a log are not empty
pub mod OfDemand3
pub mod OfTurns
-- what each clause of demand 3 says of lists; of a reply sent ahead (T-02), and of line clears given up (T-03)
pub mod Consequences
pub mod SentAhead
pub mod GivenUp
-- what is shown beside demand 3 of lists and of logs
pub mod OfLists
-- document 01's own step and the one before T-08: what is said of their lists
pub mod OfDocument01
-- ---- calls of a host (T-06)
-- what each clause says of stores and fetches on one shelf
pub mod OfShelfCalls
