-- A batch that takes messages, after one of them.
pub mod BatchLaws
-- The cause of a fault, of a part of a call, is the cause of the whole.
pub mod CauseLaws
-- Who was answered that all workers have left was given the whole order.
pub mod EndLaws
-- A state after a turn is the fold of what was heard by then.
pub mod FoldLaws
-- Equal operations lead to equal states, where an operation has one outcome.
pub mod FunctionLaws
-- Turns of a receiver, one after another.
pub mod GoingLaws
-- What a turn of a receiver adds to the items that it was given.
pub mod HearingLaws
-- Calls between moments of one order make a linearizable history.
pub mod HistoryLaws
-- What is put after a moment stands in the order behind all that stood there then.
pub mod LaterLaws
-- Who was told to have left, after a turn of a receiver.
pub mod LeavingLaws
-- What a call executed stands behind all that was in the order when it began.
pub mod LinearLaws
-- What pieces of long operations come to in a state of these: the fold of the operations that are
-- whole, and of each worker what it has begun.
pub mod LongLaws
-- What is linearizable over the pieces of long operations is so over these.
pub mod LongOrders
-- Long operations of replicas, by tables that threads go by.
pub mod LongTables
-- What two pages of promises, and machines that play events, tell of executions and reads.
pub mod MachineLaws
-- The replicas of a bus that is new, paired off one by one.
pub mod OpeningLaws
-- What replicas have to do with the one order of their bus.
pub mod OrderLaws
-- The item of a worker's own number has the bytes that it put.
pub mod OwnLaws
-- What a read has in its state: all that stood in the order when it began.
pub mod ReadLaws
-- Wrong histories of a counter are not linearizable, and a right one is.
pub mod RefusedHistories
-- What a sender has put stays what it has put, by the same numbers, whatever else it does.
pub mod SendingLaws
-- Histories of replicas, by tables that threads go by.
pub mod TableLaws
-- What was applied at one moment is applied by whoever has caught up since.
pub mod TimeLaws
-- A sitting goes on from what was replayed, and what was written into a journal is replayed.
pub mod RecordedLaws
-- The next numbers behind a journal, item by item.
pub mod PageLaws
-- A state that keeps what was applied to it shows what a recovery must not lead to.
pub mod RefusedRecoveries
