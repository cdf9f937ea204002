pub mod Messages
pub mod Frames
pub mod Reading
pub mod Steps
pub mod Spans
pub mod Batches
pub mod Faults
pub mod Private
