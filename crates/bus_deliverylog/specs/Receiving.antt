-- A receiver's end of the log: what it knows, and what one load does to it.
use Rattle.std.specs.Prelude.{◌≡◌, ◌≢◌, ℕ, ◌+◌, ◌%◌, ◌^◌, ◌<◌, ◌≤◌, List, [], ◌∷◌, ◌++◌, length}
use Rattle.std.specs.Prelude.{◌⊎◌}
use Rattle.std.specs.Prelude.{Bool, true, false, Option, Some, None, if◌then◌else◌, ◌==◌, ◌&&◌}
use Rattle.std.specs.Prelude.{nat_lt}
use Rattle.std.specs.List.{list_any}
use Rattle.bus_register.specs.declared.kinds.Kind.{Kind}
use Rattle.bus_register.specs.declared.kinds.Kind.TheVariants.{LoadLength, LoadLogWord}
use Rattle.bus_register.specs.declared.kinds.Kind.TheVariants.{StorePassed}
use Rattle.bus_register.specs.declared.limits.TheConstants.{PASSED_ALL}
use Rattle.bus_register.specs.declared.registers.Op.{Op}
use Rattle.bus_register.specs.declared.registers.Op.TheVariants.{Load, Store, Add, Cas}
use Rattle.bus_batch.specs.declared.messages.Piece.{Piece}
use Rattle.bus_batch.specs.declared.messages.Piece.TheVariants as piece
use Rattle.bus_batch.specs.Frames.{IsBadWord, GivesPiece, is_end}
use Rattle.bus_batch.specs.Reading.{Reading, HasRead, is_between}
use Rattle.bus_batch.specs.Spans.{midway}
use Rattle.bus_batch.specs.declared.readers.Span.{Span}
use Rattle.bus_deliverylog.specs.declared.receiving.RecvTurn.{RecvTurn}
use Rattle.bus_deliverylog.specs.declared.receiving.RecvTurn.TheVariants as turn

-- how many words of a log are known, the place that was read up to, what was read of the words
-- before it, and whether the end was among them
pub record LogReading : Type 0 where
  pub known : ℕ
  pub place : ℕ
  pub frames : Reading
  pub ended : Bool

-- a receiver of a machine: the places of the log and of its length, how many words the log has,
-- where it says how far it has come, how far it said last, whether it has left for good, and what
-- it has read
pub record Receiving : Type 0 where
  pub log_at : ℕ
  pub length_at : ℕ
  pub log_words : ℕ
  -- the place of its passed place; none where no word of the log is used again
  pub passed_at : Option ℕ
  -- the place that it stored there last, and 0 before
  pub passed : ℕ
  pub gone : Bool
  pub known : ℕ
  pub place : ℕ
  pub frames : Reading
  pub ended : Bool

abbrev pub reading_of : Receiving → LogReading
reading_of r = record { known = r.known; place = r.place; frames = r.frames; ended = r.ended }

abbrev pub with_reading : Receiving → LogReading → Receiving
with_reading r l = record r { known = l.known; place = l.place; frames = l.frames; ended = l.ended }

-- one that has left for good, and is what it was else
abbrev pub with_leave : Receiving → Receiving
with_leave r = record r { gone = true }

-- where it is to store its place: it has heard a whole frame since it did last
abbrev pub passing_due : Receiving → Option ℕ
passing_due r =
    if is_between r.frames.place && nat_lt r.passed r.place then r.passed_at else None

-- at the length that it knows it loads the length, else the word at its place, which lies in a cell
-- of the log
abbrev pub load_kind : Receiving → Kind
load_kind r = if r.place == r.known then LoadLength else LoadLogWord

abbrev pub load_op : Receiving → Op
load_op r =
    if r.place == r.known then Load (record { 0 = r.length_at })
    else Load (record { 0 = r.log_at + r.place % r.log_words })

-- a store of its place comes before a load
abbrev pub kind_by : Option ℕ → Receiving → Kind
kind_by None r = load_kind r
kind_by (Some at) r = StorePassed

abbrev pub op_by : Option ℕ → Receiving → Op
op_by None r = load_op r
op_by (Some at) r = Store (record { 0 = at }) r.place

-- after the end it takes no step
abbrev pub receiving_kind : Receiving → Option Kind
receiving_kind r = if r.ended then None else Some (kind_by (passing_due r) r)

abbrev pub receiving_op : Receiving → Option Op
receiving_op r = if r.ended then None else Some (op_by (passing_due r) r)

-- and of one that has left for good none is due
abbrev pub due_kind : Receiving → Option Kind
due_kind r = if r.gone then None else receiving_kind r

abbrev pub due_op : Receiving → Option Op
due_op r = if r.gone then None else receiving_op r

-- with its leave it stores 2^64 - 1 in its passed place, past all words; without one it takes no
-- step
abbrev pub leaving_by : Option ℕ → Option Op
leaving_by None = None
leaving_by (Some at) = Some (Store (record { 0 = at }) PASSED_ALL)

abbrev pub leaving_op : Receiving → Option Op
leaving_op r = leaving_by r.passed_at

-- With its first step one that joins shows in its passed place what it has passed: a
-- compare_exchange from 2^64 - 1, which stands there where nobody has its number. Without a passed
-- place it takes no step.
abbrev pub joining_by : Option ℕ → ℕ → Option Op
joining_by None passed = None
joining_by (Some at) passed = Some (Cas (record { 0 = at }) PASSED_ALL passed)

abbrev pub joining_op : Receiving → Option Op
joining_op r = joining_by r.passed_at r.passed

-- what a receiver with this passed place is, which a receiver has made that is v: just what that
-- is, but for its passed place
abbrev pub forked_at : Option ℕ → Receiving → Receiving
forked_at at v = record v { passed_at = at }

-- a word that is none of a log of so many words, nor the one that has its length
pub record LiesApart (log_at length_at log_words at : ℕ) : Type 0 where
  pub log : (place : ℕ) → place < log_words → at ≢ log_at + place
  pub length : at ≢ length_at

-- what a step writes lies apart from the log and from its length
abbrev pub WritesApart : Receiving → Op → Type 0
WritesApart r (Load at) = Unit {0}
WritesApart r (Store at x) = LiesApart r.log_at r.length_at r.log_words at.0
WritesApart r (Add at x) = LiesApart r.log_at r.length_at r.log_words at.0
WritesApart r (Cas at x y) = LiesApart r.log_at r.length_at r.log_words at.0

-- what a receiver answers of a word
abbrev pub turn_of : Option Piece → RecvTurn
turn_of None = turn.Going
turn_of (Some (piece.Head tenure owner)) = turn.Head tenure owner
turn_of (Some (piece.Item item)) = turn.Item item
turn_of (Some piece.End) = turn.End
turn_of (Some (piece.Leave s)) = turn.Leave s

-- an answer behind which more may be there at once
abbrev pub recv_goes_on : RecvTurn → Bool
recv_goes_on turn.Going = true
recv_goes_on turn.Empty = false
recv_goes_on (turn.Head tenure owner) = true
recv_goes_on (turn.Item item) = true
recv_goes_on (turn.Leave sender) = true
recv_goes_on turn.End = false

-- these words were read, which gave these pieces
pub record HasReceived (words : List ℕ) (pieces : List (Option Piece)) (r : LogReading) :
    Type 0 where
  pub read : HasRead r.frames.senders words pieces r.frames
  pub place : r.place ≡ length words

-- where a reader of a log stands that has read the own word of a message, and these of its bytes
abbrev pub midway_in : LogReading → Span → List ℕ → LogReading
midway_in r span taken = record r {
  place = r.place + (1 + length taken);
  frames = midway r.frames span taken;
  ended = false;
}

-- some words were read with which a log begins, and it has ended exactly where the end was among
-- what they gave
pub record HasSeen (r : LogReading) : Type 0 where
  pub words : List ℕ
  pub pieces : List (Option Piece)
  pub received : HasReceived words pieces r
  pub ended : r.ended ≡ list_any is_end pieces

-- a load of the length: the known one gives Empty, a larger one is known from then on, and any
-- other changes nothing. One past the log's words behind its passed place is not believed
pub record TakesLength (old : Receiving) (got : ℕ) (answer : RecvTurn) (new : Receiving) :
    Type 0 where
  pub same : got ≡ old.known → (answer ≡ turn.Empty) × (new ≡ old)
  pub more : old.known < got → got ≤ old.log_words + old.passed
      → (answer ≡ turn.Going) × (new ≡ record old { known = got })
  pub less : got < old.known → (answer ≡ turn.Going) × (new ≡ old)
  pub beyond : old.known < got → old.log_words + old.passed < got
      → (answer ≡ turn.Going) × (new ≡ old)

-- a store of its place, which is its passed place from then on
abbrev pub TakesPassed : Receiving → RecvTurn → Receiving → Type 0
TakesPassed old answer new = (answer ≡ turn.Going) × (new ≡ record old { passed = old.place })

-- a good word: what it gives is answered, and the place moves on
pub record TakesGood (words : List ℕ) (pieces : List (Option Piece)) (old : LogReading) (got : ℕ)
    (answer : RecvTurn) (new : LogReading) : Type 0 where
  pub found : Option Piece
  pub gives : GivesPiece old.frames.senders words got found
  pub answer_is : answer ≡ turn_of found
  pub received : HasReceived (words ++ got ∷ []) (pieces ++ found ∷ []) new
  pub new_is : new ≡ record old { place = old.place + 1; frames = new.frames; ended = is_end found }

-- a load of a log word: a bad word gives Going and changes nothing
abbrev pub TakesWord : List ℕ → List (Option Piece) → LogReading → ℕ → RecvTurn → LogReading
    → Type 0
TakesWord words pieces old got answer new =
    (IsBadWord old.frames.senders words got × (answer ≡ turn.Going) × (new ≡ old))
    ⊎ TakesGood words pieces old got answer new

-- the same, whatever words were read
abbrev pub TakesNext : LogReading → ℕ → RecvTurn → LogReading → Type 0
TakesNext old got answer new =
    (words : List ℕ) (pieces : List (Option Piece)) → HasReceived words pieces old
    → TakesWord words pieces old got answer new

-- any word of a message's bytes but the last says nothing by itself
abbrev pub TakesWithin : LogReading → Span → Type 0
TakesWithin r span =
    (taken : List ℕ) (word : ℕ) → word < 2 ^ 64 → length taken + 1 < span.words
    → TakesNext (midway_in r span taken) word turn.Going (midway_in r span (taken ++ word ∷ []))
