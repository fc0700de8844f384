pub mod DoubleWords
