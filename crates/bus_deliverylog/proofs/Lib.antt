-- What a reading of a log knows along the words.
pub mod ReadLaws
-- What one good word does to a reading of a log, and when no store is due.
pub mod ReceiveLaws
-- When a receiver stores its place: where a frame ends, in its passed place, and once.
pub mod PassLaws
-- Lists grown by their next element.
pub mod WriteLaws
-- A writer's steps, one by one, and the log after them.
pub mod WritingSteps
-- What is no prefix of an order, and that words which are no log have one fault alone.
pub mod FaultLaws
-- What was read is a prefix of what the whole log says.
pub mod PrefixLaws
-- What is noted at the end joins the one list at its end.
pub mod Merging
-- Bytes written in hexadecimal digits one by one.
mod TextLemmas
