-- A text that is written piece by piece.
pub mod StreamLemmas
-- What is printed of a run that ended well, and that nothing is printed of another.
pub mod PrintLemmas
-- Which task a command names, by its name and what its options were given.
mod Naming
