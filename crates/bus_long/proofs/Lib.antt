-- What one piece comes to, and how the pieces of bytes begin.
pub mod Cutting
-- Whoever reads the pieces of messages has these messages.
pub mod Joining
-- The long messages of items: of each sender, those that its messages come to.
pub mod Orders
-- Small instances of pieces and of long messages.
pub mod Instances
