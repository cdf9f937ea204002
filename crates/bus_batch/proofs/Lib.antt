-- Messages that fill so many words of a frame: one may be added in front or taken off, and any
-- words can be filled for which there is room.
pub mod Fillings
-- A word in a head's place.
pub mod Heads
-- A word in a message's place, and what comes after a message.
pub mod Bodies
-- The last word of a message's bytes, whose other bytes are zero.
pub mod Padding
-- A word of a message's bytes.
pub mod Bytes
-- From a reader's fields to what one word does to it.
pub mod Taking
-- From one step of a reader to what it has read.
pub mod Feeding
-- The words of one message, read together.
pub mod Spans
-- Where a reader stands is one function of what it has read.
pub mod Standing
-- The words of a batch.
pub mod Batching
-- The messages that words spell.
pub mod Spelling
-- Words spell one log at most, and a frame's words begin no other frame's.
pub mod FrameLaws
-- Frames of so many messages at most are frames of more, and not the other way round; but those of
-- which none has more messages are of that limit.
pub mod LimitLaws
-- What no log has, and that each refusal has one fault alone.
pub mod RefusalLaws
-- A batch makes a lawful frame.
pub mod BatchLaws
-- The pieces of a log say its order and its owners.
pub mod PieceLaws
-- Words of frames, taken apart.
pub mod WordLaws
