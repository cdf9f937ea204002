-- What a receiver that forks neither finds nor makes.
pub mod ForkRefusals
-- A listener counts just what it takes, and notes who has left.
pub mod HearingLaws
-- Turns between which a function is asked are turns.
pub mod Passing
-- A receiver that forks tries one number after another.
pub mod Tries
