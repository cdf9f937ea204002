pub mod Format
pub mod Records
pub mod Reading
pub mod Walks
pub mod Cuts
pub mod Faults
