-- Document 02, T-05, as definitions, in reading order: the section, and when it is well made; the step; lists of steps; the theorem that stands in
-- place of demand 3; and the counts of a log.
pub mod Sections
pub mod WellMade
pub mod Steps
pub mod Runs
pub mod InOrder
pub mod Counts
