-- What a sender and a receiver of a bus show of their seats.
use Rattle.std.specs.Prelude.{◌≡◌, ℕ, ◌+◌, ◌<◌, ◌≤◌, ◌^◌, length, take, false, Option, Some}
use Rattle.std.specs.Prelude.{None, List, []}
use Rattle.atomic_table.specs.declared.shared.Seat.{Seat}
use Rattle.atomic_table.specs.Seated.{TableId}
use Rattle.bus_register.specs.declared.registers.Op.{Op}
use Rattle.std.specs.List.{list_any}
use Rattle.bus_batch.specs.declared.messages.Piece.{Piece}
use Rattle.bus_batch.specs.Frames.{is_end}
use Rattle.bus_deliverylog.specs.Receiving.{LogReading, HasReceived}
use Rattle.bus_tenure.specs.Situations.{Comes}
use Rattle.bus_tenure.specs.declared.pages.Page.{Page}
use Rattle.bus_tenure.specs.declared.turns.Turn.{Turn}
use Rattle.bus_world.specs.Headline.{Action}
use Rattle.bus_pageslot.specs.declared.rule.View.{View}
use Rattle.bus_pageslot.specs.declared.rule.View.TheVariants.{Sender, Tap, Spent}
use Rattle.bus_pageslot.specs.ReceiverViews.{ReceiverView, new_receiver_view}
use Rattle.bus_automaton.specs.Processes.{TableLayout, Process, IsCounted, passed_word}
use Rattle.bus_pageslot.specs.declared.listeners.Listener.{Listener}
use Rattle.bus_pageslot.specs.declared.listeners.LogCells.{LogCells}
use Rattle.bus_pageslot.specs.Rounds.{GoesRound}
use Rattle.bus_pageslot.specs.Notes.{Look, Notes}
use Rattle.bus_pageslot.specs.Rule.{Sat, sender_trail_in, notes_in, stored_in, looks_in, FitsLog}
use Rattle.bus_pageslot.specs.Steps.{Accepts, Numbers, carried_of, all_in, noted_by, Told}
use Rattle.bus_automaton.specs.SenderTrails.{SenderTrail, with_sender_trail}

-- a sender: what it holds, and its seat
pub record SenderSeat (C : Type 0) : Type 0 where
  pub core : C
  pub seat : Seat (Option Page) (View C)

-- its table
abbrev pub table_of : {C : Type 0} → SenderSeat C → TableId
table_of s = s.seat.table_id

-- all that it did
abbrev pub sender_trail_of : {C : Type 0} → Process C → SenderSeat C → SenderTrail
sender_trail_of P s = all_in P s.seat.me.0 s.core

-- the number of its first message
abbrev pub first_number_of : {C : Type 0} → Process C → SenderSeat C → ℕ
first_number_of P s = (sender_trail_of P s).first

abbrev pub actions_of : {C : Type 0} → Process C → SenderSeat C → List Action
actions_of P s = (sender_trail_of P s).actions

-- the last length that it has stored
abbrev pub stored_of : {C : Type 0} → SenderSeat C → ℕ
stored_of s = stored_in s.seat.me.0

-- what its seat shows beside its trail, and all its looks
abbrev pub notes_of : {C : Type 0} → SenderSeat C → Notes
notes_of s = notes_in s.seat.me.0

abbrev pub looks_of : {C : Type 0} → SenderSeat C → List Look
looks_of s = looks_in s.seat.me.0

-- its seat shows it as it was after its last step
pub record Shows {C : Type 0} (P : Process C) (d : C) (s : Seat (Option Page) (View C)) :
    Type 0 where
  pub shown : C
  pub actions : List Action
  pub accepts : Accepts P shown d actions
  pub counted : IsCounted P d
  -- no page is under way to it
  pub laid : P.awaits d ≡ false
  pub numbered : Numbers P shown (sender_trail_in s.me.0)
  pub me : s.me ≡ (Sender shown (sender_trail_in s.me.0) (notes_in s.me.0), carried_of (P.holds d))
  pub words : s.table_id.words ≡ (P.table_layout d).words
  pub slots : s.table_id.slots ≡ 1

-- A sender took the step that was due of it. It and its answer are those of its turn for the number
-- that the step found; and its trail has this step more, with the number that its word had, which a
-- store does not tell.
pub record Took {C : Type 0} (P : Process C) (old : SenderSeat C) (word : ℕ) (turn : Turn)
    (new : SenderSeat C) : Type 0 where
  pub got : ℕ
  pub found : ℕ
  pub told : (o : Op) → P.op old.core word ≡ Some o → Told o found got
  -- what was at home before: the page, where it was taken
  pub home : Option Page
  pub taken : (t : ℕ) → P.move old.core ≡ Comes t → (page : Page) × (home ≡ Some page)
  pub core : new.core ≡ P.after old.core home got word
  pub answer : turn ≡ P.answer old.core got word
  -- what a store found makes no difference
  pub same_core : P.after old.core home got word ≡ P.after old.core home found word
  pub same_answer : P.answer old.core got word ≡ P.answer old.core found word
  pub sender_trail : sender_trail_of P new
      ≡ with_sender_trail (sender_trail_of P old) (P.adds old.core found word)
  -- the length that it stores is the last one then, and its looks are those before
  pub notes : notes_of new ≡ noted_by (P.op old.core word) (notes_of old)

-- the same, and what its answer tells of what the sender held and of the number that the step found
pub record TookAndTold {C : Type 0} (P : Process C) (Tells : C → ℕ → ℕ → Turn → Type 0)
    (old : SenderSeat C) (word : ℕ) (turn : Turn) (new : SenderSeat C) : Type 0 where
  pub took : Took P old word turn new
  pub tells : Tells old.core took.got word turn

-- where a receiver sits, and what it sees there
pub record ReceiverSeat (C : Type 0) : Type 0 where
  pub table_id : TableId
  pub me : Sat C

abbrev pub nowhere : TableId
nowhere = record {
  words = 0;
  slots = 0;
  views_name = 0;
  atom = 0;
  block = 0;
  offset = 0;
  slot_names = [];
}

abbrev pub receiver_seat : {C : Type 0} → Seat (Option Page) (View C) → ReceiverSeat C
receiver_seat s = record { table_id = s.table_id; me = s.me }

abbrev pub receiver_seat_of : {C : Type 0} → Option (Seat (Option Page) (View C)) → ReceiverSeat C
receiver_seat_of (Some s) = receiver_seat s
receiver_seat_of None = record { table_id = nowhere; me = (Spent, []) }

-- A reader beside a seat: it knows as many words as the seat shows, and has read the first of them,
-- with the end among what they gave exactly where it has ended.
pub record IsFit (senders : ℕ) (e : ReceiverView) (r : LogReading) : Type 0 where
  pub known : r.known ≡ length e.known
  pub place : r.place ≡ e.place
  pub ended : r.ended ≡ e.ended
  pub senders_are : r.frames.senders ≡ senders
  pub within : r.place ≤ r.known
  pub pieces : List (Option Piece)
  pub received : HasReceived (take r.place e.known) pieces r
  pub seen : r.ended ≡ list_any is_end pieces

-- the passed place of the receiver of this number, on a table of this layout; none where no word of
-- the log is used again
abbrev pub IsPassedAt : TableLayout → ℕ → Option ℕ → Type 0
IsPassedAt x me None = x.passers ≡ 0
IsPassedAt x me (Some at) = (me < x.passers) × (at ≡ passed_word x me) × (at < x.words)

-- where the log of such a table lies, and the passed place of that receiver, among all of them
pub record HasCells (x : TableLayout) (me : ℕ) (cells : LogCells) : Type 0 where
  pub number_is : cells.number ≡ me
  pub passers_is : cells.passers ≡ x.passers
  pub passed_room : (r : ℕ) → r < x.passers → passed_word x r < x.words
  pub log_is : cells.log ≡ x.log
  pub capacity_is : cells.log_words ≡ x.capacity
  pub passed_is : IsPassedAt x me cells.passed_at
  pub some : 0 < x.capacity
  pub room : x.log + x.capacity ≤ x.words
  pub few : x.words ≤ 2 ^ 63
  pub behind : 2 ≤ x.log

-- A receiver's seat on a table of so many words, with what it keeps beside that. It has not left,
-- and what it has passed it has read. Where no word of the log is used again it has passed nothing,
-- and what it knows fits the log.
pub record IsReceiverView {C : Type 0} (m : Sat C) (words : ℕ) (l : Listener) : Type 0 where
  pub table_layout : TableLayout
  pub receiver_view : ReceiverView
  pub me : m ≡ (Tap table_layout receiver_view, [])
  pub wide : words ≡ table_layout.words
  pub cells : HasCells table_layout receiver_view.me l.cells
  pub round : GoesRound l
  pub stays : receiver_view.gone ≡ false
  pub passed : l.passed ≡ receiver_view.passed
  pub past : receiver_view.passed ≤ receiver_view.place
  pub never : table_layout.passers ≡ 0 → receiver_view.passed ≡ 0
  pub within : FitsLog table_layout receiver_view.known
  pub fit : IsFit table_layout.senders receiver_view l.reader

-- a receiver shows its seat
abbrev pub IsTap : {C : Type 0} → ReceiverSeat C → Listener → Type 0
IsTap s l = IsReceiverView s.me s.table_id.words l

-- the seat of a receiver that has taken no step
pub record IsFresh {C : Type 0} (s : ReceiverSeat C) (cells : LogCells) (senders : ℕ) :
    Type 0 where
  pub table_layout : TableLayout
  pub number : ℕ
  pub me : s.me ≡ (Tap table_layout (new_receiver_view number), [])
  pub wide : s.table_id.words ≡ table_layout.words
  pub cells_are : HasCells table_layout number cells
  pub senders_are : senders ≡ table_layout.senders
