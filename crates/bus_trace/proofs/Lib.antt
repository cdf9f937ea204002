-- The line of an event, made of the step that was seen.
pub mod RowLemmas
-- The step of an event: of which tenure it is, and what stands in its word afterwards.
pub mod StepLemmas
-- How many words a bus has such as the first line of a script asks for.
pub mod SizeLemmas
-- The lines of an event that is repeated while it goes on.
pub mod RepeatRows
-- The lines of a script, obeyed one by one.
pub mod PlayRows
-- What the columns of an event show is what it adds to the trails.
mod ShowLemmas
-- Each line of a trace has nine columns, of which the third names who is asked and the fifth a
-- kind, a call or nothing.
mod LineLaws
-- All lines of a trace are rows of its picture: along a run of events, each of a sender or a
-- receiver that there is.
mod AllLinesLaws
-- What the words of a bus are called, by where they lie.
mod NameLemmas
