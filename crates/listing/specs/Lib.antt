pub mod LineText
pub mod Text
