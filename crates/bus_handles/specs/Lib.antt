pub mod Answers
pub mod Asking
pub mod Closings
pub mod Handles
pub mod Pages
pub mod Texts
