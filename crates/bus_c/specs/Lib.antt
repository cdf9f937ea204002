pub mod Forked
pub mod Held
pub mod Opened
