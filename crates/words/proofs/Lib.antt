-- ---- a vehicle in its two words, and vehicles in the ring of slots
pub mod Packing
pub mod Slots
pub mod Round
pub mod VehiclesIn
-- ---- what alters words: a vehicle at an end, a desk, a whole section, and one change after another
pub mod Ends
pub mod DeskWords
pub mod Keeping
pub mod Becoming
-- ---- the words written out one by one
pub mod Written
