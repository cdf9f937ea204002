pub mod Scripts
pub mod Text
pub mod Lines
pub mod Answers
