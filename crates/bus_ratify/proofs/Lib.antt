-- Reading the steps of a line one by one.
pub mod StepLemmas
-- What a script that is read says of its steps, and what the verdicts after them say.
pub mod PlayLemmas
-- An input has one answer.
pub mod AnswerLemmas
-- The lines of a script of `ratify` are what they spell, both ways.
pub mod LineLemmas
-- Scripts are what they spell, both ways.
pub mod ScriptLemmas
