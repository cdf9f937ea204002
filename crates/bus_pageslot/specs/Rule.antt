-- The rule of the table. Its words and its slot are those of a state that executions of a bus lead
-- to, of senders that did what the views of its seats show: so between any two steps all that is
-- promised of the machine holds of what threads did.
use Rattle.std.specs.Prelude.{◌≡◌, ◌≢◌, ◌⊎◌, ℕ, ◌+◌, ◌-◌, ◌<◌, ◌≤◌, true, false, List, [], ◌∷◌}
use Rattle.std.specs.Prelude.{Option, Some, None, length, slice_index}
use mathlib.Core.Option.{some, none}
use mathlib.Core.Option as maybe
use lib.ListN.{get_elem?}
use Rattle.atomic_table.specs.Table.{State, Me}
use Rattle.bus_batch.specs.Frames.{Frame, AreFrames, log_words}
use Rattle.bus_tenure.specs.declared.pages.Page.{Page}
use Rattle.bus_world.specs.Headline.{IsPrefix}
use Rattle.bus_pageslot.specs.Notes.{Look, Notes, no_notes, noting}
use Rattle.bus_pageslot.specs.ReceiverViews.{ReceiverView, new_receiver_view}
use Rattle.bus_pageslot.specs.ReceiverViews.{receiver_view_knowing, HasHeard}
use Rattle.bus_automaton.specs.Processes.{TableLayout, no_table_layout, Process, Automaton}
use Rattle.bus_automaton.specs.Processes.{base_in, log_in, log_cell, passed_word}
use Rattle.bus_automaton.specs.SenderTrails.{SenderTrail, new_sender_trail, no_sender_trail}
use Rattle.bus_pageslot.specs.declared.rule.View.{View}
use Rattle.bus_pageslot.specs.declared.rule.View.TheVariants.{Maker, Sender, Tap, Meeting, Telling}
use Rattle.bus_pageslot.specs.declared.rule.View.TheVariants.{Spent}

abbrev pub slot_of : Option Page → maybe.Option (Option Page)
slot_of (Some page) = some (Some page)
slot_of None = none

-- the view of a seat of a bus whose senders hold C, and the slots that are out with it
abbrev pub Sat : Type 0 → Type 0
Sat C = Me (Option Page) (View C)

abbrev pub sender_trail_in : {C : Type 0} → View C → SenderTrail
sender_trail_in (Maker x made) = no_sender_trail
sender_trail_in (Sender c sender_trail notes) = sender_trail
sender_trail_in (Tap x e) = no_sender_trail
sender_trail_in (Meeting x e y f) = no_sender_trail
sender_trail_in (Telling c sender_trail notes x e) = sender_trail
sender_trail_in Spent = no_sender_trail

-- what its sender shows beside that
abbrev pub notes_in : {C : Type 0} → View C → Notes
notes_in (Maker x made) = no_notes
notes_in (Sender c sender_trail notes) = notes
notes_in (Tap x e) = no_notes
notes_in (Meeting x e y f) = no_notes
notes_in (Telling c sender_trail notes x e) = notes
notes_in Spent = no_notes

-- the last length that its sender has stored; 0 before the first
abbrev pub stored_in : {C : Type 0} → View C → ℕ
stored_in v = (notes_in v).stored

-- all its looks
abbrev pub looks_in : {C : Type 0} → View C → List Look
looks_in v = (notes_in v).looks

-- the view of a sender that has looked once more; of others no look is shown
abbrev pub with_look : {C : Type 0} → View C → Look → View C
with_look (Maker x made) look = Maker x made
with_look (Sender c sender_trail notes) look = Sender c sender_trail (noting notes look)
with_look (Tap x e) look = Tap x e
with_look (Meeting x e y f) look = Meeting x e y f
with_look (Telling c sender_trail notes x e) look = Telling c sender_trail notes x e
with_look Spent look = Spent

-- the view of the maker of seats, before and after a seat is made
abbrev pub cut_left : {C : Type 0} → View C → View C
cut_left (Maker x made) = Maker x (made + 1)
cut_left (Sender c sender_trail notes) = Sender c sender_trail notes
cut_left (Tap x e) = Tap x e
cut_left (Meeting x e y f) = Meeting x e y f
cut_left (Telling c sender_trail notes x e) = Telling c sender_trail notes x e
cut_left Spent = Spent

-- and the view of the new seat: of the sender that the call picks, whose first message has this
-- number
abbrev pub cut_right : {C : Type 0} → Option C → ℕ → View C
cut_right None first = Spent
cut_right (Some c) first = Sender c (new_sender_trail first) no_notes

-- the view of the maker of seats, before and after a receiver's seat is made: these come behind
-- those of all senders
abbrev pub tap_left : {C : Type 0} → View C → View C
tap_left v = cut_left v

abbrev pub tap_right : {C : Type 0} → View C → View C
tap_right (Maker x made) = Tap x (new_receiver_view (made - x.senders))
tap_right (Sender c sender_trail notes) = Spent
tap_right (Tap x e) = Spent
tap_right (Meeting x e y f) = Spent
tap_right (Telling c sender_trail notes x e) = Spent
tap_right Spent = Spent

-- what a receiver's seat knows, has read and was answered
abbrev pub receiver_view_in : {C : Type 0} → View C → ReceiverView
receiver_view_in (Maker x made) = new_receiver_view 0
receiver_view_in (Sender c sender_trail notes) = new_receiver_view 0
receiver_view_in (Tap x e) = e
receiver_view_in (Meeting x e y f) = e
receiver_view_in (Telling c sender_trail notes x e) = e
receiver_view_in Spent = new_receiver_view 0

abbrev pub known_in : {C : Type 0} → View C → List ℕ
known_in v = (receiver_view_in v).known

abbrev pub with_receiver_view : {C : Type 0} → View C → ReceiverView → View C
with_receiver_view (Maker x made) e = Maker x made
with_receiver_view (Sender c sender_trail notes) e = Sender c sender_trail notes
with_receiver_view (Tap x old) e = Tap x e
with_receiver_view (Meeting x old y f) e = Meeting x e y f
with_receiver_view (Telling c sender_trail notes x old) e = Telling c sender_trail notes x e
with_receiver_view Spent e = Spent

-- how large a receiver's bus is
abbrev pub table_layout_in : {C : Type 0} → View C → TableLayout
table_layout_in (Maker x made) = no_table_layout
table_layout_in (Sender c sender_trail notes) = no_table_layout
table_layout_in (Tap x e) = x
table_layout_in (Meeting x e y f) = x
table_layout_in (Telling c sender_trail notes x e) = x
table_layout_in Spent = no_table_layout

abbrev pub senders_in : {C : Type 0} → View C → ℕ
senders_in v = (table_layout_in v).senders

abbrev pub capacity_in : {C : Type 0} → View C → ℕ
capacity_in v = (table_layout_in v).capacity

-- which word of its table is the cell of this word of the log
abbrev pub log_word_in : {C : Type 0} → View C → ℕ → ℕ
log_word_in v place = log_cell (table_layout_in v) place

-- and which is its passed place
abbrev pub passed_word_in : {C : Type 0} → View C → ℕ
passed_word_in v = passed_word (table_layout_in v) (receiver_view_in v).me

-- This word of the log stands in its cell as long as the receiver goes on: it has not left, and has
-- not passed the word. Where no word of the log is used again each stands.
abbrev pub MayRead : TableLayout → ReceiverView → ℕ → Type 0
MayRead x e place = (x.passers ≡ 0) ⊎ ((e.gone ≡ false) × (e.passed ≤ place))

-- where no word of the log is used again, no more are known than the log has room for
abbrev pub FitsLog : TableLayout → List ℕ → Type 0
FitsLog x known = x.passers ≡ 0 → length known ≤ x.capacity

-- two seats joined: of two receivers, or of a sender and a receiver
abbrev pub views_joined : {C : Type 0} → View C → View C → View C
views_joined (Tap x e) (Tap y f) = Meeting x e y f
views_joined (Sender c sender_trail notes) (Tap x e) = Telling c sender_trail notes x e
views_joined (Maker x made) w = Spent
views_joined (Sender c sender_trail notes) (Maker x made) = Spent
views_joined (Sender c sender_trail notes) (Sender d other more) = Spent
views_joined (Sender c sender_trail notes) (Meeting x e y f) = Spent
views_joined (Sender c sender_trail notes) (Telling d other more x e) = Spent
views_joined (Sender c sender_trail notes) Spent = Spent
views_joined (Tap x e) (Maker y made) = Spent
views_joined (Tap x e) (Sender d sender_trail notes) = Spent
views_joined (Tap x e) (Meeting y f z g) = Spent
views_joined (Tap x e) (Telling d sender_trail notes y f) = Spent
views_joined (Tap x e) Spent = Spent
views_joined (Meeting x e y f) w = Spent
views_joined (Telling c sender_trail notes x e) w = Spent
views_joined Spent w = Spent

-- a seat that another may go into
abbrev pub IsFirst : {C : Type 0} → View C → Type 0
IsFirst (Maker x made) = ⊥
IsFirst (Sender c sender_trail notes) = Unit {0}
IsFirst (Tap x e) = Unit {0}
IsFirst (Meeting x e y f) = ⊥
IsFirst (Telling c sender_trail notes x e) = ⊥
IsFirst Spent = ⊥

-- and cut apart again
abbrev pub first_of : {C : Type 0} → View C → View C
first_of (Maker x made) = Maker x made
first_of (Sender c sender_trail notes) = Sender c sender_trail notes
first_of (Tap x e) = Tap x e
first_of (Meeting x e y f) = Tap x e
first_of (Telling c sender_trail notes x e) = Sender c sender_trail notes
first_of Spent = Spent

abbrev pub second_of : {C : Type 0} → View C → View C
second_of (Maker x made) = Spent
second_of (Sender c sender_trail notes) = Spent
second_of (Tap x e) = Spent
second_of (Meeting x e y f) = Tap y f
second_of (Telling c sender_trail notes x e) = Tap x e
second_of Spent = Spent

-- the receivers that are joined have loaded the length, and know this
abbrev pub all_knowing : {C : Type 0} → View C → List ℕ → View C
all_knowing (Maker x made) known = Maker x made
all_knowing (Sender c sender_trail notes) known = Sender c sender_trail notes
all_knowing (Tap x e) known = Tap x (receiver_view_knowing e known)
all_knowing (Meeting x e y f) known =
    Meeting x (receiver_view_knowing e known) y (receiver_view_knowing f known)
all_knowing (Telling c sender_trail notes x e) known =
    Telling c sender_trail notes x (receiver_view_knowing e known)
all_knowing Spent known = Spent

-- ---- what the views say of a bus
-- where the number of a receiver is: with the seat that is to make one for it, or at that of the
-- last receiver that has it
pub data Ear : Type 0 where
  Unmade : ℕ → Ear
  Made : ℕ → Ear

-- the seat j is that of this sender, which has done just this, and has stored no length but those
-- that the log has reached
pub record IsSeated {C : Type 0} (P : Process C) (A : Automaton C) (z : A.State) (seat : ℕ → ℕ)
    (j : ℕ) (c : C) (sender_trail : SenderTrail) (stored : ℕ) : Type 0 where
  pub here : seat (P.me c) ≡ j
  pub core : A.sender z (P.me c) ≡ Some c
  pub sender_trail_is : A.sender_trail z (P.me c) ≡ sender_trail
  pub reached : stored ≤ slice_index (A.words z) 0

-- the sender p has no seat of its own yet, and has done nothing: the seat j is to make one for it
pub record IsUnseated {C : Type 0} (A : Automaton C) (z : A.State) (seat : ℕ → ℕ) (j p : ℕ) :
    Type 0 where
  pub here : seat p ≡ j
  pub core : A.sender z p ≡ Some (A.started p)
  pub sender_trail_is : A.sender_trail z p ≡ new_sender_trail (base_in A p)

-- the receiver r has no seat of its own yet, and has passed nothing: the seat j is to make one for
-- it
pub record IsUnheard {C : Type 0} (A : Automaton C) (z : A.State) (ear : ℕ → Ear) (j r : ℕ) :
    Type 0 where
  pub here : ear r ≡ Unmade j
  pub passed : A.passed z r ≡ Some 0

-- A receiver of this number, for which a seat was made, and which has a passed place. Until the
-- receiver has left, the number is that of the seat j alone, and the passed place has what the
-- receiver has stored there. From then on nothing is said of the number: another may take it. What
-- the receiver has stored is not past its place.
pub record IsListening {C : Type 0} (A : Automaton C) (z : A.State) (ear : ℕ → Ear) (j : ℕ)
    (e : ReceiverView) : Type 0 where
  pub here : e.gone ≡ false → ear e.me ≡ Made j
  pub made : (i : ℕ) → ear e.me ≢ Unmade i
  pub below : e.me < A.table_layout.passers
  pub shown : e.gone ≡ false → A.passed z e.me ≡ Some e.passed
  pub past : e.passed ≤ e.place

-- A receiver knows a beginning of the log, which has some frames; and its turns have answered just
-- what these give, up to its place. Where words of the log are used again its number is its own,
-- until it leaves.
pub record KnowsLog {C : Type 0} (A : Automaton C) (z : A.State) (ear : ℕ → Ear) (j : ℕ)
    (x : TableLayout) (e : ReceiverView) : Type 0 where
  pub table_layout : x ≡ A.table_layout
  pub front : IsPrefix e.known (log_in A z)
  pub below : e.place ≤ length e.known
  pub frames : List Frame
  pub lawful : AreFrames A.table_layout.senders frames
  pub words_are : log_words frames ≡ log_in A z
  pub heard : HasHeard frames e
  pub listens : (A.table_layout.passers ≡ 0) ⊎ IsListening A z ear j e

-- two receivers have two numbers, or one of them has left
abbrev pub AreTwo : {C : Type 0} → Automaton C → ReceiverView → ReceiverView → Type 0
AreTwo A e f =
    (A.table_layout.passers ≡ 0) ⊎ (e.me ≢ f.me) ⊎ (e.gone ≡ true) ⊎ (f.gone ≡ true)

-- of these seats of senders, and these of receivers
abbrev pub IsTrueOf : {C : Type 0} → Process C → (A : Automaton C) → A.State → (ℕ → ℕ)
    → (ℕ → Ear) → ℕ → View C → Type 0
IsTrueOf P A z seat ear j (Maker x made) =
    (x ≡ A.table_layout)
    × ((p : ℕ) → made ≤ p → p < A.table_layout.senders → IsUnseated A z seat j p)
    × ((r : ℕ) → made ≤ A.table_layout.senders + r → r < A.table_layout.passers
    → IsUnheard A z ear j r)
IsTrueOf P A z seat ear j (Sender c sender_trail notes) =
    IsSeated P A z seat j c sender_trail notes.stored
IsTrueOf P A z seat ear j (Tap x e) = KnowsLog A z ear j x e
IsTrueOf P A z seat ear j (Meeting x e y f) =
    KnowsLog A z ear j x e × KnowsLog A z ear j y f × AreTwo A e f
IsTrueOf P A z seat ear j (Telling c sender_trail notes x e) =
    IsSeated P A z seat j c sender_trail notes.stored × KnowsLog A z ear j x e
IsTrueOf P A z seat ear j Spent = Unit {0}

-- the sender p shows in this view: in its own, or in that of the maker of seats while it has none
-- of its own
abbrev pub Seats : {C : Type 0} → Process C → ℕ → View C → Type 0
Seats P p (Maker x made) = made ≤ p
Seats P p (Sender c sender_trail notes) = P.me c ≡ p
Seats P p (Tap x e) = ⊥
Seats P p (Meeting x e y f) = ⊥
Seats P p (Telling c sender_trail notes x e) = P.me c ≡ p
Seats P p Spent = ⊥

-- the receiver r of a ring shows in this view: in its own, or joined to another, or in that of the
-- maker of seats while it has none of its own
abbrev pub SeatsReceiver : {C : Type 0} → ℕ → View C → Type 0
SeatsReceiver r (Maker x made) = made ≤ x.senders + r
SeatsReceiver r (Sender c sender_trail notes) = ⊥
SeatsReceiver r (Tap x e) = e.me ≡ r
SeatsReceiver r (Meeting x e y f) = (e.me ≡ r) ⊎ (f.me ≡ r)
SeatsReceiver r (Telling c sender_trail notes x e) = e.me ≡ r
SeatsReceiver r Spent = ⊥

-- a receiver r that has not left shows in this view, or is yet to have its seat made by it
abbrev pub SeatsStaying : {C : Type 0} → ℕ → View C → Type 0
SeatsStaying r (Maker x made) = made ≤ x.senders + r
SeatsStaying r (Sender c sender_trail notes) = ⊥
SeatsStaying r (Tap x e) = (e.me ≡ r) × (e.gone ≡ false)
SeatsStaying r (Meeting x e y f) =
    ((e.me ≡ r) × (e.gone ≡ false)) ⊎ ((f.me ≡ r) × (f.gone ≡ false))
SeatsStaying r (Telling c sender_trail notes x e) = (e.me ≡ r) × (e.gone ≡ false)
SeatsStaying r Spent = ⊥

-- Executions of the bus lead to a state with these words, and with its page in the slot where that
-- is at home; the views of the seats are true of it; and each of its senders shows in one of them,
-- and so does each receiver of a ring.
pub record TableInvariant {C : Type 0} (P : Process C) (A : Automaton C)
    (s : State (Option Page) (View C)) : Type 0 where
  pub state : A.State
  pub reached : A.IsReached state
  pub words : s.words ≡ A.words state
  pub slot : s.homes ≡ slot_of (A.home state) ∷ []
  -- of each sender the seat that shows it
  pub seat : ℕ → ℕ
  -- and of each receiver that has a passed place, until it leaves
  pub ear : ℕ → Ear
  pub views : (j : ℕ) (v : View C) → get_elem? s.views j ≡ some v
      → IsTrueOf P A state seat ear j v
  pub all : (p : ℕ) → p < A.table_layout.senders
      → (j : ℕ) × (v : View C) × (get_elem? s.views j ≡ some v) × Seats P p v
  -- and so does each receiver of a ring
  pub all_heard : (r : ℕ) → r < A.table_layout.passers
      → (j : ℕ) × (v : View C) × (get_elem? s.views j ≡ some v) × SeatsReceiver r v
  -- and where a passed place has a place of the log, a receiver that has not left
  pub all_staying : (r p : ℕ) → A.passed state r ≡ Some p
      → (j : ℕ) × (v : View C) × (get_elem? s.views j ≡ some v) × SeatsStaying r v
