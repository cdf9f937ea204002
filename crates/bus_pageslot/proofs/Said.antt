-- What the seats of a table show of the bus behind it.

-- What stands behind a table: a machine, and what led to it.
pub mod Histories
-- The page of promises holds of what the seats show, since events lead to the bus that the table
-- is.
pub mod Promising
-- What a sender is answered is so.
pub mod Truths
-- What the frames of a log from one of them on say of the whole of it.
pub mod LastFrames
-- No step of a sender lowers the stage; and where rows of words are used again, none is an action
-- in a tenure whose row has gone on.
pub mod PastTenures
-- The seats of a bus whose rows are used again are safe: what the history behind them keeps, said
-- of what they show.
pub mod SafeSeats
-- A sender that answers Behind shows the load of the presence that it found.
pub mod BehindShown
-- The tenures of a page that is at home are above that of each frame that stands, and its floor is
-- not past that of the log.
pub mod AboveFrames
-- A receiver of a ring finds, from what it has passed on, each word that was published there.
pub mod Rings
-- Any two receivers that seats show were answered the same, as far as both have read.
pub mod Alike
-- All words from the floor on fit the log: the length is no further behind the floor than the log
-- has words.
pub mod Fitting
-- What was published grows by the frame of who stores the length.
pub mod Publishing
-- What was published stays published.
pub mod Lasting
-- What the close of a table tells of the bus that it was.
pub mod Endings
