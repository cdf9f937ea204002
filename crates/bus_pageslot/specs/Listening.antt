-- A receiver's turns: what one load makes of its seat, and what is answered.
use Rattle.std.specs.Prelude.{◌≡◌, ℕ, ◌<◌, ◌≤◌, true, false, Option, Some, None, List, []}
use Rattle.std.specs.Prelude.{◌++◌, length, take, slice_get, slice_index, if◌then◌else◌, ◌==◌}
use Rattle.bus_batch.specs.declared.messages.Item.{Item}
use Rattle.bus_batch.specs.declared.messages.Piece.{Piece}
use Rattle.bus_batch.specs.Frames.{Frame, AreFrames, GivesPiece, IsLog, log_words, log_pieces}
use Rattle.bus_deliverylog.specs.declared.receiving.RecvTurn.{RecvTurn}
use Rattle.bus_deliverylog.specs.declared.receiving.RecvTurn.TheVariants as turn
use Rattle.bus_deliverylog.specs.Receiving.{turn_of}
use Rattle.bus_tenure.specs.Core.{length_at}
use Rattle.bus_world.specs.Headline.{IsPrefix}
use Rattle.bus_automaton.specs.Processes.{TableLayout, log_cell}
use Rattle.bus_pageslot.specs.declared.listening.ItemTurn.{ItemTurn}
use Rattle.bus_pageslot.specs.declared.listening.ItemTurn.TheVariants as item_turn
use Rattle.bus_pageslot.specs.ReceiverViews.{ReceiverView, heard_length, heard_word, length_turn}
use Rattle.bus_pageslot.specs.ReceiverViews.{passed_on}
use Rattle.bus_pageslot.specs.Rule.{Sat, receiver_view_in, known_in, with_receiver_view}
use Rattle.bus_pageslot.specs.Rule.{senders_in, table_layout_in, log_word_in, FitsLog}
use Rattle.bus_pageslot.specs.declared.rule.View.{View}
use Rattle.bus_pageslot.specs.declared.rule.View.TheVariants.{Tap}
use Rattle.bus_pageslot.specs.Steps.{HasPassed, HasLeftBy}

-- ---- what the step tells
-- of the length: what the receiver knows of the log grows, up to the length that was found
pub record FindsLength {C : Type 0} (m : Sat C) (got : ℕ) (m' : Sat C) : Type 0 where
  pub known : List ℕ
  pub grows : IsPrefix (known_in m.0) known
  pub length_is : length known ≡ got
  pub within : FitsLog (table_layout_in m.0) known
  pub now : m' ≡ (
    with_receiver_view m.0
        (heard_length (receiver_view_in m.0) known (length_turn (receiver_view_in m.0).place got)),
    m.1,
  )

-- of the word at the receiver's place: it is the one that it knows there, and gives what it gives
-- in some log that goes on so
pub record FindsWord {C : Type 0} (m : Sat C) (got : ℕ) (m' : Sat C) : Type 0 where
  pub got_is : got ≡ slice_index (known_in m.0) (receiver_view_in m.0).place
  pub found : Option Piece
  pub frames : List Frame
  pub rest : List ℕ
  pub lawful : AreFrames (senders_in m.0) frames
  pub words_are : log_words frames ≡ known_in m.0 ++ rest
  pub at : slice_get (log_pieces frames) (receiver_view_in m.0).place ≡ Some found
  pub now : m' ≡ (
    with_receiver_view m.0 (heard_word (receiver_view_in m.0)
        (log_word_in m.0 (receiver_view_in m.0).place) found (turn_of found)),
    m.1,
  )

-- ---- what the turn tells
-- The step found the length: the answer is Empty exactly where that is the receiver's place.
pub record HearsLength {C : Type 0} (m : Sat C) (answer : RecvTurn) (m' : Sat C) : Type 0 where
  pub got : ℕ
  pub finds : FindsLength m got m'
  pub answer_is : answer ≡ length_turn (receiver_view_in m.0).place got

-- The step found the word at the receiver's place: the answer is what it gives after the words that
-- were read, in each log that goes on so.
pub record HearsWord {C : Type 0} (m : Sat C) (answer : RecvTurn) (m' : Sat C) : Type 0 where
  pub got : ℕ
  pub finds : FindsWord m got m'
  pub gives : GivesPiece (senders_in m.0) (take (receiver_view_in m.0).place (known_in m.0)) got
      finds.found
  pub answer_is : answer ≡ turn_of finds.found

-- ---- when a receiver passes
-- Its passed place is due: it has read a whole frame since it stored that last, and none is under
-- way where it stands.
abbrev pub PassIsDue : TableLayout → ReceiverView → Type 0
PassIsDue x e =
    (0 < x.passers) × (e.passed < e.place) × IsLog x.senders (take e.place e.known)

-- of the view of a receiver's seat
abbrev pub PassesNext : {C : Type 0} → View C → Type 0
PassesNext v = PassIsDue (table_layout_in v) (receiver_view_in v)

-- One turn of a receiver. After the end it answers so for good, and takes no step. Where it has
-- read a whole frame that it has not passed it stores its place in its passed place, and answers
-- Going. Else it loads the length where it has read all that it knows, and else the word at its
-- place.
pub record Hears {C : Type 0} (m : Sat C) (answer : RecvTurn) (m' : Sat C) : Type 0 where
  pub ended : (receiver_view_in m.0).ended ≡ true → (answer ≡ turn.End) × (m' ≡ m)
  pub at_pass : (receiver_view_in m.0).ended ≡ false → PassesNext m.0
      → (answer ≡ turn.Going) × HasPassed m m'
  pub at_length : (receiver_view_in m.0).ended ≡ false → ¬ PassesNext m.0
      → (receiver_view_in m.0).place ≡ length (known_in m.0) → HearsLength m answer m'
  pub at_word : (receiver_view_in m.0).ended ≡ false → ¬ PassesNext m.0
      → (receiver_view_in m.0).place < length (known_in m.0) → HearsWord m answer m'

-- which word it loads, of a receiver that has not ended and that is not to pass
abbrev pub due_load : TableLayout → ReceiverView → ℕ
due_load x e = if e.place == length e.known then length_at else log_cell x e.place

-- ---- an answer of which an item is written in its place
abbrev pub item_turn_of : RecvTurn → ItemTurn
item_turn_of turn.Going = item_turn.Going
item_turn_of turn.Empty = item_turn.Empty
item_turn_of (turn.Head tenure owner) = item_turn.Going
item_turn_of (turn.Item item) = item_turn.Item
item_turn_of (turn.Leave sender) = item_turn.Going
item_turn_of turn.End = item_turn.End

-- what stands in that place then; any other answer leaves what stood there before
abbrev pub item_after : RecvTurn → Item → Item
item_after turn.Going before = before
item_after turn.Empty before = before
item_after (turn.Head tenure owner) before = before
item_after (turn.Item item) before = item
item_after (turn.Leave sender) before = before
item_after turn.End before = before

-- what stands where a head or a leave mark is written; any other answer leaves what stood there
-- before
abbrev pub sign_after : RecvTurn → RecvTurn → RecvTurn
sign_after turn.Going before = before
sign_after turn.Empty before = before
sign_after (turn.Head tenure owner) before = turn.Head tenure owner
sign_after (turn.Item item) before = before
sign_after (turn.Leave sender) before = turn.Leave sender
sign_after turn.End before = before

pub record Writes (answer : RecvTurn) (before : Item) (told : ItemTurn) (after : Item) :
    Type 0 where
  pub told_is : told ≡ item_turn_of answer
  pub after_is : after ≡ item_after answer before

-- the same, where none is told of a word that says nothing by itself
abbrev pub WritesOrPlain : RecvTurn → Item → Option ItemTurn → Item → Type 0
WritesOrPlain answer before None after = (answer ≡ turn.Going) × (after ≡ before)
WritesOrPlain answer before (Some told) after = Writes answer before told after

-- Turns that took words which say nothing by themselves led from one seat to another. None of them
-- was due to store its place.
pub data GoesOnTo {C : Type 0} (first : Sat C) : Sat C → Type 0 where
  At : GoesOnTo first first
  Onward : (old new : Sat C) → GoesOnTo first old → ¬ PassesNext old.0
      → (receiver_view_in old.0).place < length (known_in old.0) → Hears old turn.Going new
      → GoesOnTo first new

-- Such turns, and a last one, of which an item is written in its place.
pub record HearsAfter {C : Type 0} (first : Sat C) (before : Item) (told : ItemTurn) (after : Item)
    (new : Sat C) : Type 0 where
  pub old : Sat C
  pub going : GoesOnTo first old
  pub answer : RecvTurn
  pub hears : Hears old answer new
  pub writes : Writes answer before told after

-- The same, and a head or a leave mark of the last one is written as the sign; any other answer of
-- it leaves the sign as it was.
pub record HearsSigned {C : Type 0} (first : Sat C) (before : Item) (sign : RecvTurn)
    (told : ItemTurn) (after : Item) (signed : RecvTurn) (new : Sat C) : Type 0 where
  pub heard : HearsAfter first before told after new
  pub signs : signed ≡ sign_after heard.answer sign

-- ---- what these refuse, of a receiver that has not ended
pub record HearingRefuses (C : Type 0) (x : TableLayout) (e : ReceiverView) : Type 0 where
  -- a load, where its passed place is due
  pub loads_length : PassIsDue x e → (known : List ℕ) (told answer : RecvTurn)
      → ¬ Hears {C = C} (Tap x e, []) answer (Tap x (heard_length e known told), [])
  pub loads_word : PassIsDue x e → (word : ℕ) (found : Option Piece) (told answer : RecvTurn)
      → ¬ Hears {C = C} (Tap x e, []) answer (Tap x (heard_word e word found told), [])
  -- a store of the length that it knows, though it has not read all of it
  pub known_length : e.place < length e.known → (word : ℕ) (answer : RecvTurn)
      → ¬ Hears {C = C} (Tap x e, []) answer
      (Tap x (record (passed_on e word) { passed = length e.known }), [])
  -- a store of its place within a frame, or of a receiver that has no passed place
  pub within_frame : e.passed < e.place → e.place ≤ length e.known
      → ¬ IsLog x.senders (take e.place e.known) → (word : ℕ) (answer : RecvTurn)
      → ¬ Hears {C = C} (Tap x e, []) answer (Tap x (passed_on e word), [])
  pub none : e.passed < e.place → e.place ≤ length e.known → x.passers ≡ 0
      → (word : ℕ) (answer : RecvTurn)
      → ¬ Hears {C = C} (Tap x e, []) answer (Tap x (passed_on e word), [])
  -- a leave of a ring without a store
  pub leaves : 0 < x.passers → ¬ HasLeftBy {C = C} (Tap x e, []) (Tap x e, [])
