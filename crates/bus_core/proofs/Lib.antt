-- Rows of words that are used again: what is kept, and what steps tell.
pub mod Reusing
-- What a holder remembers of the passed places is the least of them, and the page gets its floor by
-- that.
mod LeastPassed
-- Both tables are the one.
pub mod Bridged
-- What the situation of a sender tells.
pub mod Situated
-- A holder loads all passed places before it gives its page back for want of room.
mod Loading
-- What a step of a sender leaves, by what the calls gave.
mod Stepped
-- A sender asks for a random word exactly where its next step is a vote.
mod Votes
-- Each line of the table keeps what a sender keeps.
pub mod Kept
-- Each step of an election has its cause.
mod ElectionCauses
-- Each kind of step has its cause.
pub mod Caused
-- A sender that has begun no tenure, by what it holds: whether it looks at the stage, and why it
-- has nothing to do.
pub mod Looking
-- Each of these is no cause.
mod CausesRefused
-- The next step lies where its line says.
pub mod Lying
-- Plain stores: when one is due, and what it leaves.
pub mod Plain
-- Plain stores in words one behind another: what they leave, and how many there are.
mod Rows
-- Words of a frame in words of the log that follow one another.
mod FrameRows
-- Steps of an election that follow one another: what each leaves and answers, and where it lies.
pub mod ElectionRows
-- What the answer of a step tells.
pub mod Told
-- Each of the wrong answers is refused.
mod Refused
