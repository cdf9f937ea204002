pub mod Lines
pub mod Text
pub mod GoingOn
pub mod Answers
pub mod Told
pub mod Histories
