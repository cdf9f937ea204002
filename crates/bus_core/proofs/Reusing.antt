-- Rows of words that are used again: what is kept, and what steps tell.

-- How many words a bus has whose rows are used again.
pub mod Widths
-- Where an election runs, and what elections keep.
pub mod Keeps
-- The law of the elections that a participant takes part in, over any ratifier.
pub mod Laws
-- Why a page is given back, and what the holder shows of the reason.
pub mod Tells
