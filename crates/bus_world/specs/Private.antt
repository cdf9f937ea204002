-- The bus with a row for each tenure by itself, the bus whose rows are used again, and what each
-- keeps: of proofs alone, to be passed over.
pub mod Tenures
pub mod Sending
pub mod Receiving
pub mod Machines
pub mod Answers
pub mod Trails
pub mod Invariants
pub mod CyclicProtocols
pub mod KeptProtocols
