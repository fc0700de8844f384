-- The proofs about the definitions of specs/, in reading order: what a customer cites; why demand 3 holds; the same rules on figures that are written out; and the laws
-- that the others stand on. Each has a page of its own that says what its files show, from the first to the last.
-- Beside them are the proofs of this crate's own functions, each in a folder under its type and its name.
pub mod theorems
pub mod invariant
pub mod examples
pub mod laws
