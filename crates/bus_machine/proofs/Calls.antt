-- From these laws to the contracts of a machine's calls.

-- What a machine that a program holds has, as its calls say it.
pub mod Held
-- What a machine that a program holds goes by: room, sums that fit, numbers that fit, no page under
-- way between turns, and its log.
pub mod Holding
-- What the calls of a program say of each event, by what it holds.
pub mod Events
-- What a fork does, and what it keeps, by what a machine holds.
pub mod Forking
-- A turn in its three parts: the page comes home, the step is taken, the page is laid.
pub mod TurnLaws
-- Events that are played one after another, and what is said of all of them.
pub mod PlayLaws
