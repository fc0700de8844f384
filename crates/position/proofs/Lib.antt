pub mod Copies
pub mod HighFirst
pub mod Places
