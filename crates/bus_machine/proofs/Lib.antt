-- Whatever leads to a machine, the promise holds of it: of both kinds of rows, by the frames of its
-- log.
pub mod Promised
-- What leads to a machine, as one of two bases: with a row for each tenure, or with rows that are
-- used again.
pub mod Bases
-- What words, page and senders keep, by the frames of the log.
pub mod Frames
-- Who enters a tenure, takes its page, clears the row of the next, and in how many steps.
pub mod Tenures
-- What senders remember, and what their answers tell.
pub mod Memory
-- What floors and passed places keep.
pub mod Ring
-- What never falls.
pub mod Onward
-- Stops and leaves are for good.
pub mod Stops
-- From these laws to the contracts of a machine's calls.
pub mod Calls
-- What the definitions refuse.
pub mod Refused
