-- What stands before the first separator of a text and behind it, and the lines and words that
-- begin there.
pub mod PieceLemmas
-- The lines of a text are what it spells, both ways.
pub mod TextLemmas
-- Reading a list from its front: what was read, and what is behind it.
pub mod EachLaws
-- When a word is a number, and when it is none.
pub mod NumberLaws
-- Numbers and words are what they spell, both ways.
pub mod SpelledLaws
