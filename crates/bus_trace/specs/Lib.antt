pub mod Words
pub mod Naming
pub mod Rows
pub mod Told
pub mod Steps
pub mod Traces
pub mod Obeying
pub mod Showing
