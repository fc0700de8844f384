-- The laws that the other proofs stand on, each file about one subject.

-- ---- tests and lists
-- tests and what they say; a list of tests scanned for the first that holds; a statement about every element of a list
pub mod Tests
pub mod Scans
pub mod Every
-- the reasons that do not apply, and the clauses of well made, by name
pub mod Reasons
pub mod Clauses
-- the vehicles present and their two ends
pub mod Vehicles
-- lists of steps, taken apart and put together
pub mod Lists
-- ---- entries
-- numbers as bytes; the fields of an entry; what is allowed; what reading finds; and what the ranges say of an act
pub mod Bytes
pub mod Fields
pub mod Judged
pub mod Found
pub mod Ranges
-- the numbers that a step answers with
pub mod Numbers
-- ---- logs
-- the turns of a log; the counts of those refused; the same bytes further on in a log; and whole entries put one behind another, read again
pub mod Turns
pub mod Counts
pub mod Moved
pub mod ReadAgain
-- ---- bytes lent, positions and shelves
-- two pastes in a row; the places of a well-made section; a shelf laid out from its names; what a store leaves on any shelf, and what a fetch reads of it
pub mod Pastes
pub mod OwnPlaces
pub mod Shelves
pub mod Stores
