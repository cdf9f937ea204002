-- The sizes of a bus, its events, what a receiver does in a turn, and what a new bus is.
use Rattle.std.specs.Prelude.{◌≡◌, ◌≢◌, ℕ, ◌+◌, ◌%◌, ◌<◌, Bool, true, false, Option, Some, None}
use Rattle.std.specs.Prelude.{List, length, replicate, slice_index, if◌then◌else◌, ◌==◌, ◌≤◌}
use Rattle.bus_register.specs.declared.limits.TheConstants.{MOST_SENDERS, MOST_RECEIVERS}
use Rattle.bus_register.specs.declared.limits.TheConstants.{MOST_LOG_WORDS, TENURES, MOST_MESSAGES}
use Rattle.bus_batch.specs.declared.messages.Mark.{Mark}
use Rattle.bus_deliverylog.specs.declared.receiving.RecvTurn.{RecvTurn}
use Rattle.bus_deliverylog.specs.declared.receiving.RecvTurn.TheVariants.{End as RecvEnd}
use Rattle.bus_deliverylog.specs.Receiving.{Receiving, TakesLength, TakesNext, reading_of}
use Rattle.bus_deliverylog.specs.Receiving.{with_reading, passing_due, TakesPassed}
use Rattle.bus_tenure.specs.Core.{Layout}
use Rattle.bus_tenure.specs.declared.pages.Page.{Page}
use Rattle.bus_world.specs.declared.limits.TheConstants.{FIRST_NUMBERS}

-- sizes that are served
pub record IsLayout (x : Layout) : Type 0 where
  pub senders : x.senders ≤ MOST_SENDERS
  pub rows : x.rows ≤ TENURES
  pub capacity : x.capacity ≤ MOST_LOG_WORDS
  -- none where no word of the log is used again
  pub passers : x.passers ≤ MOST_RECEIVERS
  pub batch : (1 ≤ x.batch) × (x.batch ≤ MOST_MESSAGES)

abbrev pub is_set : Option Bool → Bool
is_set None = false
is_set (Some t) = t

-- What may happen next, in any order and number: nothing is assumed of who is scheduled, of the
-- random words, or of who stops or leaves. A sender stops by an event of its own, or just by having
-- none any more.
pub data Event : Type 0 where
  Put : (sender : ℕ) → (bytes : List ℕ) → Event
  -- a close asks for the end mark, a leave for the leave mark
  Ask : (sender : ℕ) → Mark → Event
  Turn : (sender : ℕ) → (word : ℕ) → Event
  Recv : (receiver : ℕ) → Event
  Stop : (sender : ℕ) → Event
  -- a receiver leaves for good
  Gone : (receiver : ℕ) → Event

-- ---- a turn of a receiver
-- what one step of a receiver does, where it found this number
pub record RecvStep (old : Receiving) (got : ℕ) (answer : RecvTurn) (new : Receiving) : Type 0 where
  pub senders : new.frames.senders ≡ old.frames.senders
  pub at_passed : (at : ℕ) → passing_due old ≡ Some at → TakesPassed old answer new
  pub at_length : passing_due old ≡ None → old.place ≡ old.known → TakesLength old got answer new
  pub at_word : passing_due old ≡ None → old.place ≢ old.known
      → TakesNext (reading_of old) got answer (reading_of new)
  pub registers : passing_due old ≡ None → new ≡ with_reading old (reading_of new)
  -- its words are where they were, and it has not left by it
  pub keeps : (new.log_at ≡ old.log_at) × (new.length_at ≡ old.length_at)
      × (new.log_words ≡ old.log_words) × (new.passed_at ≡ old.passed_at) × (new.gone ≡ old.gone)

-- what a load finds; what a store finds is not looked at
abbrev pub recv_found : (ℕ → ℕ) → Receiving → ℕ
recv_found words v =
    if v.place == v.known then words v.length_at else words (v.log_at + v.place % v.log_words)

-- By this number it finds what it looks for in a log: at the length that it knows that of the log,
-- and else the word at its place, which is one of the log.
abbrev pub FindsIn : List ℕ → Receiving → ℕ → Type 0
FindsIn log v got =
    (v.place ≡ v.known → got ≡ length log)
    × (v.place ≢ v.known → (v.place < length log) × (got ≡ slice_index log v.place))

-- one turn of a receiver: after the end it answers End for good, and takes no step
pub record RecvDoes (words : ℕ → ℕ) (old : Receiving) (answer : RecvTurn) (new : Receiving) :
    Type 0 where
  pub ended : old.ended ≡ true → (answer ≡ RecvEnd) × (new ≡ old)
  pub going : old.ended ≡ false → RecvStep old (recv_found words old) answer new

-- ---- a new bus
-- the numbers that a sitting begins with, by sender: each is below its range by a whole log at
-- least
pub record AreBases (bases : List ℕ) : Type 0 where
  pub many : length bases ≡ MOST_SENDERS
  pub low : (s : ℕ) → slice_index bases s < FIRST_NUMBERS

-- those of a bus of which no sitting was before
abbrev pub no_bases : List ℕ
no_bases = replicate MOST_SENDERS 0

abbrev pub first_page : List ℕ → Page
first_page bases = record {
  next = bases;
  left = replicate MOST_SENDERS false;
  ended = false;
  tenures = 0;
  words = 0;
  floor = 0;
}

-- nobody has stopped
abbrev pub no_stops : List Bool
no_stops = replicate MOST_SENDERS false
