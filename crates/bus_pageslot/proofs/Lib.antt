-- What the table's rule keeps, from its start on.
pub mod Ruled
-- One step of a seat.
pub mod SeatSteps
-- Calls of a sender.
pub mod Sends
-- Calls of a receiver.
pub mod Hears
-- What the seats of a table show of the bus behind it.
pub mod Said
