-- What a sender holds and does beside its tenures where rows are used again.
pub mod Participants
pub mod Passing
pub mod Keeping
pub mod Turns
pub mod Telling
