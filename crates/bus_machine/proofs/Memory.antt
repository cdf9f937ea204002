-- What senders remember, and what their answers tell.

-- What holds of each sender and of what it did at its start, and after each of its own events,
-- holds of it in each machine that is reached.
pub mod EachSender
-- Who did the same in a tenure says the same of it.
pub mod SameActions
-- What each sender of a machine goes by is so.
pub mod Remembering
-- Who remembers an owner has seen an election end with it, and withdraws next.
pub mod Losing
-- What an event is answered is so.
pub mod AnswersTold
-- What the answer of a step tells of the sender out of whose hands the page has gone, it tells of
-- the sender before that.
pub mod HandTells
