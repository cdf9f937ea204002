-- What an election's calls give, from what its decision gave.
pub mod Owners
-- The branches of an election's steps, each with what it knows.
pub mod ElectionCases
-- What was seen, announced and proposed stays so.
pub mod ElectionGrows
-- An election keeps its law: there is one owner, who announced itself.
pub mod ElectionIsLawful
-- A step of one process keeps what an election keeps, and so does a start.
pub mod ElectionMoves
-- Each single step of an election, whatever it found.
pub mod ElectionSteps
-- What follows of numbers and their bits.
pub mod NumberLaws
-- An election asks for a random word where its machine says so.
pub mod ElectionAsking
