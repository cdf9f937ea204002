-- Words as bytes, and checksums.
pub mod Words
-- Records, one behind another: bytes have one longest list of them.
pub mod Chunks
-- The records of a log's frames.
pub mod Frames
-- The words of a log, appended frame by frame.
pub mod Pushing
-- From the records that were walked to the frames that are told.
pub mod Walking
-- Headers: bytes begin with one at most.
pub mod HeaderLaws
-- Tails that are less than a record.
pub mod Shorts
-- What answers of a journal are.
pub mod AnswerLaws
-- A journal that was written is told whole.
pub mod WrittenLaws
-- Records in a tail that looks cut off.
pub mod Hiding
-- A journal of which the first bytes are left, with zeros behind.
pub mod CutLaws
