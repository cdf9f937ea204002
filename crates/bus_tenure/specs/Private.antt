-- Parts of a line of the table that proofs alone read: to be passed over.
pub mod LineParts
