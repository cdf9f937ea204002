-- What the table's rule keeps, from its start on.

-- The table at its start, and how senders get their seats.
pub mod Openings
-- How what leads to a state becomes the rule of the table: each step of a sender is allowed.
pub mod Ties
-- What a sender accepts between its steps leads on.
pub mod Reaching
-- A batch that is not sent is kept: what turns leave of the messages that wait.
pub mod Keeping
-- What a step does to the slot of the page.
pub mod Slots
-- What the seats show and all that was published fix the page of promises; and without a seat of
-- each sender there is none.
pub mod OnePage
-- All proofs of the rule of one table have one log: where no word of the log is used again, or
-- where a receiver shows that has not left.
pub mod OneList
-- Each sender shows in some seat, and each receiver of a ring, whatever the seats do.
pub mod AllSeats
-- A sender numbers the messages that it accepts by how many it has put, from its first number on,
-- since the page of promises holds of what it does.
pub mod Numbering
-- A sender has the layout of the table that its seat is of.
pub mod OwnLayouts
-- What the calls of a sender say, as its process has it.
pub mod Processes
