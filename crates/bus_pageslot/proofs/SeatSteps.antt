-- One step of a seat.

-- A step that is due of a sender of a table is a turn of the machine behind it.
pub mod Stepping
-- The parts of a sender's turn, put together: what it holds afterwards, and that its seat shows it.
pub mod Walks
-- What a sender accepts between its steps: its actions as its batch shows them.
pub mod Accepting
-- The turn of a sender with which no page moves: its step alone.
pub mod Plain
-- Plain stores in a row, of which the sender takes in none before the last.
pub mod PlainRows
-- Turns in a row, and the last of them.
pub mod Rows
-- Turns of a sender whose election runs, one after another.
pub mod ElectionRows
-- The stage of an open tenure is left by its owner alone, which takes the page.
pub mod Staging
-- Behind a word that says nothing by itself no passed place is due: no log ends with one.
pub mod Silent
-- A sender's step extends the log, and never makes it shorter.
pub mod Extending
