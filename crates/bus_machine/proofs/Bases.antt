-- What leads to a machine, as one of two bases: with a row for each tenure, or with rows that are
-- used again.

-- What leads to a machine of sizes that are served, as each of the two kinds of rows has it.
pub mod Leading
-- The law of every election, for a machine of either kind of rows.
pub mod Served
-- What is appended to senders at their starts, and a machine that has them.
pub mod NewSenders
-- Lists as tables, protocols that are alike, and what is due of who holds a page or fills a batch.
pub mod ProtocolParts
-- With a row for each tenure what happens to the machine happens to the bus that it is, and what
-- leads to it leads to that bus.
pub mod AtNone
-- With rows that are used again what happens to the machine happens to its protocol, and what leads
-- to it leads to that.
pub mod AtSome
-- A turn of a machine whose rows are used again, as a turn of its protocol.
pub mod CyclicTurns
