-- The rows of one line more.
mod RowLemmas
-- A text that grows in steps.
mod TextLemmas
-- The text of rows, with one row more.
mod PictureLemmas
-- Each kind of step has its family: name by name.
pub mod FamilyLaws
-- The arrows that a picture has are those that it is to have.
mod ArrowLaws
-- Each row of a trace is drawn in its picture.
mod DrawnRows
-- Each of the wrong arrows is refused, and one that is left out.
mod Refused
-- Texts with no byte below a space: they have no tab, and no end of a line.
pub mod PlainTexts
-- A line of nine columns is read as a row.
pub mod ReadingLaws
