-- Calls of a receiver.

-- Joined seats: how seats are joined, what they learn, and how they are cut apart again.
pub mod Joining
-- A receiver's loads are allowed.
pub mod Loads
-- What a receiver's reader keeps beside its seat, and what each load makes of it.
pub mod ReaderLaws
-- A receiver reads the words of one message together.
pub mod Spans
-- How a receiver goes round the cells of its log.
pub mod Rounds
-- Each turn of a receiver adds one answer.
pub mod OneAnswer
-- What a receiver was answered is what the first pieces of the log say, and stays so.
pub mod Hearing
-- The seat of a receiver goes elsewhere: its number is that of another seat then, and all other
-- views stay true.
pub mod Ears
-- A receiver's stores in its passed place are allowed: of its place, where a frame begins, and of
-- the number past all places.
pub mod PassSteps
-- A receiver forks: its compare_exchange on the passed place of a higher number is allowed, and so
-- is a copy of its seat where no receiver has a passed place.
pub mod Forking
-- What is no fork of a receiver of a ring, nor a try to fork.
pub mod ForkingRefused
-- What a receiver that was forked off another keeps beside its seat, and what the other one does.
pub mod ForkedTaps
-- When a receiver's passed place is due, and the cell of its place.
pub mod PassTurns
