-- The entries of a schedule, one after another: a move is the turn of one process, and a play goes
-- one way alone.
pub mod Moves
-- One step of one process, over a list of words and a list of local states.
pub mod Steps
-- Processes come to their starts one after another.
pub mod Starts
-- A schedule, played over one object.
pub mod Schedules
-- A play, from its starts on: after each entry the object keeps what it always keeps, so that what
-- stands is legal, whoever has stopped.
pub mod LegalPlays
-- Adopt-commit over tables is what the checks look at in lists.
pub mod Tables
-- What two processes have.
pub mod Two
-- Plays of two processes over three words.
pub mod ThreeWordPlays
-- Names that no step of a ratifier has, and orders in which no kinds come.
pub mod Names
-- What follows of adopt-commit.
pub mod AgreementLaws
