pub mod Stores
pub mod Words
