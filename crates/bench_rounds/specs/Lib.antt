pub mod Sizes
pub mod Ranges
pub mod Checks
