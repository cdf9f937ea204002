-- A chain keeps the law of a binary decision.
pub mod ChainLaws
-- A step of one process keeps what a chain keeps, and so does a start.
pub mod ChainMoves
-- All who come out of a chain have one value, and it is the input of one who has begun.
pub mod ChainOutcome
-- Each single step in a chain, whatever it found.
pub mod ChainSteps
-- A binary decision keeps its law, over any ratifier and any conciliator.
pub mod DecideIsLawful
-- A fallback word keeps the law of a binary decision.
pub mod FallbackLaws
-- A lifted protocol keeps the law of what it was lifted from.
pub mod LiftLaws
-- The objects of a decision keep the law that a chain asks, and a decision keeps its law.
pub mod ObjectLaws
-- In which object a process of a decision stands, by how many objects come after it.
pub mod ObjectPlaces
-- Which objects the rounds have, and how many words and steps they have together.
pub mod RoundLaws
-- No process goes past an object without what it gave.
pub mod Shortcuts
