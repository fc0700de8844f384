pub mod Answering
pub mod Numbers
pub mod Sides
