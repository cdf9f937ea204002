-- The law of the elections that a sender takes part in, over any ratifier.
pub mod Lawful
-- What an election's sender is after a step of it, from what its calls gave.
pub mod ElectionTurns
-- Each step of a holder has its cause, and each kind of a ratifier its time.
pub mod Caused
-- What the situation of a sender tells of its phase.
pub mod Situated
-- A sender that looks at the stage, by what it holds.
pub mod Looking
-- What a sender publishes goes on with the log that its page knows.
mod Publishing
-- What an election's sender is after a step of it that chose it.
mod Electing
-- A situation, from what code sees of it.
pub mod Inverted
-- On which words a step of an election lies.
pub mod Rows
-- That frames fit the log, and lengths their word.
pub mod Fitting
-- That the floor of a page does not fall.
pub mod Floors
-- Who stores a word of its frame, and the words behind that one.
pub mod Words
