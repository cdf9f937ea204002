pub mod Pins
pub mod Reclaimers
pub mod Reclamation
pub mod Standing
pub mod Rows
pub mod Refused
