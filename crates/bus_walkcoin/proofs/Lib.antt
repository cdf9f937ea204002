-- A machine that was fed a trail answers what the definition says.
pub mod CoinAnswerLaws
-- The coin keeps the laws of a protocol.
pub mod CoinProtocolLaws
-- The votes of all processes together, when those of one process change.
pub mod VoteSums
