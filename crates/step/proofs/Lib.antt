-- ---- what is cited: the blocks are the listing, the last line counts the lines above it, the listing fits its room, and it ends
pub mod Whole
pub mod LastLine
pub mod Room
pub mod Ending
-- ---- a run, by either table: its loop takes the turns one by one; a run of one entry is the step; and the words of a double line's section
pub mod EitherTable
pub mod Advancing
pub mod OneEntry
pub mod Own
-- ---- a listing: the line that comes next, and the filling of a block
pub mod Next
pub mod Filling
-- ---- what the forms of the step and the running of a log promise, by their contracts
pub mod OfContracts
-- ---- texts, listings by computation, and what the theorems say of logs written out
pub mod Containing
pub mod Examples
pub mod Consequences
pub mod OfBlocks
