pub mod Chunks
pub mod Titles
pub mod Verdicts
pub mod Walk
