-- What an impl gives as its laws: proofs, to be passed over.
pub mod Padded
