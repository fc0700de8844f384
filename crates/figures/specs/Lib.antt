pub mod Doubles
pub mod Figures
pub mod Written
