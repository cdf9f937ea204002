pub mod Orders
pub mod Logs
pub mod Writing
pub mod Receiving
pub mod Faults
pub mod Text
pub mod Private
