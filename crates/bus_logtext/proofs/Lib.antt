-- Lines of words, read one by one.
pub mod WordLemmas
-- Printed words, read again.
pub mod PrintLemmas
-- An input has one answer.
pub mod AnswerLemmas
-- Lines of words are what they spell, both ways.
pub mod LineLemmas
-- What is told along the words of a log.
pub mod TextLemmas
-- Bytes have one answer as a journal, and one repair.
pub mod JournalLemmas
