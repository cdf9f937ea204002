-- A conciliator that was fed a trail gives what the definition says.
pub mod ConciliatorAnswers
-- Each single step of a conciliator as a protocol, and what follows of all that it keeps.
pub mod ConciliatorGoes
-- The conciliator keeps the laws of a protocol, and conciles.
pub mod ConciliatorLaws
-- A step over the words keeps what a conciliator keeps.
pub mod ConciliatorMoves
-- A conciliator's steps are of its four kinds.
pub mod OwnKinds
-- What is no conciliator.
pub mod ConciliatorRefusals
