-- What holds of each receiver's worker so far, and of one more, holds of all.
pub mod Checking
