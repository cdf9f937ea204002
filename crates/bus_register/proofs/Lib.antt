-- What follows of bits as numbers.
pub mod DigitLaws
-- A list with one element more.
pub mod PushLaws
