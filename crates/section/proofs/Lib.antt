pub mod Keys
pub mod Passes
pub mod Tallies
