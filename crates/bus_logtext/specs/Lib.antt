pub mod Words
pub mod Lines
pub mod Text
pub mod Answers
pub mod Journals
