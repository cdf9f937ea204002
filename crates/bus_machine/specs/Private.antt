-- How the machine is a bus with a row for each tenure, or a protocol whose rows are used again: of
-- proofs alone, to be passed over.
pub mod Bridge
