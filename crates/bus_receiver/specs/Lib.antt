pub use Rattle.bus_pageslot.specs.Seats
pub mod Forking
pub mod Hearing
pub mod HearingRuns
pub mod Listening
pub mod Sizes
