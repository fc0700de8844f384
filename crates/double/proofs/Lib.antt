-- ---- what is cited: the theorem about every list, that no step of one is refused with 5, the counts of a log, and the two round trips
pub mod InOrder
pub mod NeverFive
pub mod Counted
pub mod RoundTrips
-- ---- why it holds: what every step keeps, a line of form numbers, lists of steps, and a step in a log
pub mod Preserved
pub mod Lines
pub mod Lists
pub mod Reading
-- ---- by computation: entries, lists and sections; which sections are well made; and what the theorems say of lists and logs written out
pub mod Computing
pub mod Examples
pub mod MadeTable
pub mod Consequences
-- short logs of the second program
pub mod ShortLogs
