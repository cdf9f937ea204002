pub mod Answers
pub mod Buses
pub mod Calls
pub mod Ends
pub mod Finishing
