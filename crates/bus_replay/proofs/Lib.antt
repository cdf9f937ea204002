-- Bytes in hexadecimal digits, read one by one.
pub mod HexLemmas
-- An event that is repeated while it goes on: behind an answer with which it goes on it is not
-- refused.
pub mod RepeatLemmas
-- The lines of a script of `replay`, obeyed one by one.
pub mod PlayLemmas
-- The lines of what receivers were given, seat by seat.
pub mod GivenLemmas
-- The lines of an order, its items and its leave marks walked together.
pub mod EntryLemmas
-- What a history keeps: words that are copied one by one, answers that are counted, and what each
-- event adds.
pub mod HistoryLemmas
-- What a fork adds to what a history keeps: the new receiver counts what its maker was given.
pub mod ForkLemmas
-- What a new bus has: sizes that are served, and trails that its history has, also behind the
-- leaves of the receivers whose seats are free at first.
pub mod SizeLemmas
-- How a new bus gets its free seats.
pub mod OpeningLemmas
-- A line that asks for an event asks for it once or more.
pub mod AskLemmas
-- Where no word of the log is used again, the bus alone decides its closing lines.
mod ClosingLaws
