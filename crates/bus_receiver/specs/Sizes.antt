-- What a sitting takes of a bus without a ring, in which each of so many senders sends so many
-- messages of so many bytes, and one closes.
use Rattle.std.specs.Prelude.{◌+◌, ◌-◌, ◌*◌, ◌/◌, ℕ}
use Rattle.bus_register.specs.declared.limits.TheConstants.{LOG_MESSAGES, LOG_FRAME_WORDS}
use Rattle.bus_batch.specs.Frames.{data_len}

-- how many batches of 16 a sender sends, of which the last may be smaller
abbrev pub batches_of : ℕ → ℕ
batches_of messages = (messages + (LOG_MESSAGES - 1)) / LOG_MESSAGES

-- one tenure for each batch, and one for the close
abbrev pub tenures_of : ℕ → ℕ → ℕ
tenures_of senders messages = senders * batches_of messages + 1

-- a head for each batch; for each message a word and those of its bytes; two words for the close
abbrev pub words_of : ℕ → ℕ → ℕ → ℕ
words_of senders messages bytes =
    senders * (batches_of messages + messages * (1 + data_len bytes)) + 2

-- How many words of a log may be in use when a batch is begun: with two more for the end mark, and
-- a longest frame of each sender, it is not longer than it may be. 0 where there is no such number.
abbrev pub room_before_close : ℕ → ℕ → ℕ
room_before_close log_words senders = log_words - 2 - LOG_FRAME_WORDS * senders
