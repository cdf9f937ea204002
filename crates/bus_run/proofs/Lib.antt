-- One more receiver that was given all.
pub mod AuditLemmas
-- The text of what a run left behind, part by part.
pub mod RunTextLemmas
-- Workers of senders in order, and what the fault of workers that have ended tells of the run.
pub mod StopLemmas
-- What a sender has put is what its items carry, in what a receiver knows and in the log that this
-- begins.
pub mod ToldLemmas
-- Of a sender of a run with nothing in its batch nothing waits, and a message that it takes waits
-- behind the others.
pub mod WaitLemmas
-- What a seat has learnt, and what a bus of a run leaves behind.
pub mod LeftLemmas
-- What a sender has put, and one message more.
pub mod PutLemmas
-- What a note has counted of each sender is, in all, what the order has.
pub mod CountLemmas
-- What a listener has noted stays summed, whatever it is told.
pub mod NoteLemmas
-- What is refused of audits, of runs, and of senders that have not sent all.
pub mod Refusing
-- The frames of the log that a run leaves have no more messages than a batch of its bus.
pub mod FrameLimits
