-- The table of a participant, its turns, and how the one table is that of a sender of either kind
-- of rows: of proofs alone, to be passed over.
pub mod ParticipantTable
pub mod ParticipantTurns
pub mod Bridge
