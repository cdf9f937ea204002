-- What one step of a sender, or of a receiver, makes of its seat.
use Rattle.std.specs.Prelude.{◌≡◌, ◌≢◌, ℕ, ◌+◌, ◌<◌, ◌≤◌, length, map, slice_index, List, []}
use Rattle.std.specs.Prelude.{◌∷◌}
use Rattle.std.specs.Prelude.{◌++◌, Option, Some, None, drop, Bool, true, false, if◌then◌else◌}
use Rattle.std.specs.Prelude.{◌==◌, ◌↔◌, All, IsTrue}
use Rattle.atomic_table.specs.Table.{rest}
use Rattle.bus_register.specs.declared.limits.TheConstants.{PASSED_ALL}
use Rattle.bus_register.specs.declared.registers.Op.{Op}
use Rattle.bus_register.specs.declared.registers.Op.TheVariants.{Load, Store, Add, Cas}
use Rattle.bus_register.specs.declared.registers.SenderNo.{SenderNo}
use Rattle.bus_register.specs.Words.{register}
use Rattle.bus_batch.specs.Batches.{Pending, next_of, CanPut, CanClose}
use Rattle.bus_batch.specs.declared.batches.Phase.{Phase}
use Rattle.bus_batch.specs.declared.batches.Phase.TheVariants.{Open, Marking, Closed}
use Rattle.bus_batch.specs.declared.messages.Item.{Item}
use Rattle.bus_batch.specs.declared.messages.Mark.{Mark}
use Rattle.bus_batch.specs.Frames.{Order, Spells}
use Rattle.bus_deliverylog.specs.Orders.{of_sender}
use Rattle.bus_tenure.specs.Core.{length_at, is_marking}
use Rattle.bus_tenure.specs.Situations.{PageMove, Stays, Comes, Returns}
use Rattle.bus_tenure.specs.declared.pages.Page.{Page}
use Rattle.bus_world.specs.Headline.{Action, HasPut, HasMarked, puts, IsPrefix}
use Rattle.bus_pageslot.specs.ReceiverViews.{receiver_view_after_load, receiver_view_knowing, Agree}
use Rattle.bus_pageslot.specs.ReceiverViews.{ReceiverView, forked_as, left_for_good, passed_on}
use Rattle.bus_pageslot.specs.ReceiverViews.{receiver_tried}
use Rattle.bus_pageslot.specs.declared.rule.View.{View}
use Rattle.bus_pageslot.specs.declared.rule.View.TheVariants.{Maker, Sender, Tap, Meeting, Telling}
use Rattle.bus_pageslot.specs.declared.rule.View.TheVariants.{Spent}
use Rattle.bus_automaton.specs.Processes.{TableLayout, Process, IsCounted, EndsBy, passed_word}
use Rattle.bus_pageslot.specs.Notes.{Notes}
use Rattle.bus_pageslot.specs.Rule.{Sat, sender_trail_in, notes_in, receiver_view_in, known_in}
use Rattle.bus_pageslot.specs.Rule.{with_receiver_view, views_joined, first_of, second_of}
use Rattle.bus_pageslot.specs.Rule.{all_knowing, table_layout_in, log_word_in, passed_word_in}
use Rattle.bus_pageslot.specs.Rule.{FitsLog, MayRead}
use Rattle.bus_automaton.specs.SenderTrails.{SenderTrail, with_actions, with_sender_trail}

-- ---- what a sender accepts between its steps
-- what a sender has accepted makes this sender of c, and adds these actions
pub data Accepts {C : Type 0} (P : Process C) (c : C) : C → List Action → Type 0 where
  Nothing : Accepts P c c []
  Message : (d : C) (actions : List Action) (bytes : List ℕ) → Accepts P c d actions
      → CanPut (P.queue d) (length bytes) → All (λ byte. byte < 256) bytes
      → Accepts P c (P.with_message d bytes) (actions ++ HasPut (next_of (P.queue d)) bytes ∷ [])
  Marks : (d : C) (actions : List Action) (mark : Mark) → Accepts P c d actions
      → CanClose (P.queue d)
      → Accepts P c (P.with_mark d mark) (actions ++ HasMarked mark ∷ [])

-- Whatever a sender that has done this accepts next, it numbers each message by how many it has put
-- before, from its first number on.
abbrev pub Numbers : {C : Type 0} → Process C → C → SenderTrail → Type 0
Numbers {C} P c did =
    (d : C) (actions : List Action) → Accepts P c d actions → (size : ℕ) → CanPut (P.queue d) size
    → next_of (P.queue d) ≡ did.first + length (puts (did.actions ++ actions))

-- the same actions, as the batches show them: the messages of the one that the other does not have
-- yet, and the mark
abbrev pub puts_from : ℕ → List (List ℕ) → List Action
puts_from first [] = []
puts_from first (bytes ∷ more) = HasPut first bytes ∷ puts_from (first + 1) more

abbrev pub marks_since : Phase → Phase → List Action
marks_since before Open = []
marks_since before (Marking mark) = if is_marking before then [] else HasMarked mark ∷ []
marks_since before Closed = []

abbrev pub accepted_since : Pending → Pending → List Action
accepted_since before now =
    puts_from (next_of before) (drop (length before.messages) now.messages)
    ++ marks_since before.phase now.phase

-- since the last step of a seat with this view its sender, which is now d, has accepted this
abbrev pub since_in : {C : Type 0} → Process C → View C → C → List Action
since_in P (Maker x made) d = []
since_in P (Sender c sender_trail notes) d = accepted_since (P.queue c) (P.queue d)
since_in P (Tap x e) d = []
since_in P (Meeting x e y f) d = []
since_in P (Telling c sender_trail notes x e) d = []
since_in P Spent d = []

-- all that a sender d with this view did
abbrev pub all_in : {C : Type 0} → Process C → View C → C → SenderTrail
all_in P v d = with_actions (sender_trail_in v) (since_in P v d)

-- ---- the page in the slot
-- what is out with the seat of a sender between two turns: the slot, where it holds the page
abbrev pub carried_of : Bool → List (ℕ × Option Page)
carried_of true = (0, None) ∷ []
carried_of false = []

-- what is in its slot right before a step: the page, where the turn gives it back
abbrev pub out_with : PageMove → List (ℕ × Option Page) → List (ℕ × Option Page)
out_with Stays carried = carried
out_with (Comes t) carried = carried
out_with (Returns t reason page) carried = (0, Some page) ∷ rest carried

-- and right after it, where this page was at home
abbrev pub carried_by : PageMove → Option Page → List (ℕ × Option Page) → List (ℕ × Option Page)
carried_by Stays home carried = carried
carried_by (Comes t) home carried = (0, home) ∷ carried
carried_by (Returns t reason page) home carried = rest carried

-- what is in the slot that was taken last
abbrev pub slot_in : List (ℕ × Option Page) → Option Page
slot_in [] = None
slot_in (out ∷ more) = out.1

-- a sender that awaits its page takes it out of the slot, and has it laid before it
abbrev pub slots_emptied : Bool → List (ℕ × Option Page) → List (ℕ × Option Page)
slots_emptied true carried = (0, None) ∷ rest carried
slots_emptied false carried = carried

abbrev pub laid_from : {C : Type 0} → Process C → C → Option Page → C
laid_from P c None = c
laid_from P c (Some page) = P.laid c page

abbrev pub laid_at : {C : Type 0} → Process C → C → Bool → Option Page → C
laid_at P c true slot = laid_from P c slot
laid_at P c false slot = c

-- ---- one step
-- the length that it stores, else the one stored before
abbrev pub stored_by : Option Op → ℕ → ℕ
stored_by None before = before
stored_by (Some (Load at)) before = before
stored_by (Some (Store at value)) before = if at.0 == length_at then value else before
stored_by (Some (Add at value)) before = before
stored_by (Some (Cas at expected value)) before = before

-- what its seat shows beside its trail: that, and the looks before
abbrev pub noted_by : Option Op → Notes → Notes
noted_by o before = record before { stored = stored_by o before.stored }

-- a step tells its caller the number that its word had; a store tells none
abbrev pub Told : Op → ℕ → ℕ → Type 0
Told (Load at) found got = got ≡ found
Told (Store at value) found got = Unit {0}
Told (Add at value) found got = got ≡ found
Told (Cas at expected value) found got = got ≡ found

-- a seat after the step of a sender d, whatever it showed before: d with its turn, and its trail
-- with what it accepted and with this step
pub record Gone {C : Type 0} (P : Process C) (d : C) (word : ℕ) (m : Sat C) (got : ℕ) (m' : Sat C) :
    Type 0 where
  -- what was at home, and what the word had, before the step
  pub home : Option Page
  pub taken : (t : ℕ) → P.move d ≡ Comes t → (page : Page) × (home ≡ Some page)
  pub found : ℕ
  pub told : (o : Op) → P.op d word ≡ Some o → Told o found got
  pub core : P.after d home got word ≡ P.after d home found word
  pub answer : P.answer d got word ≡ P.answer d found word
  pub counted : IsCounted P (P.after d home got word)
  pub laid : P.awaits (P.after d home got word) ≡ false
  pub numbered : Numbers P (P.after d home got word)
      (with_sender_trail (all_in P m.0 d) (P.adds d found word))
  pub ends : EndsBy P d (P.fed d got word) (P.after d home got word) home (P.move d)
  pub now : m' ≡ (
    Sender (P.after d home got word) (with_sender_trail (all_in P m.0 d) (P.adds d found word))
        (noted_by (P.op d word) (notes_in m.0)),
    carried_by (P.move d) home m.1,
  )

-- the same of the sender that a call picks
abbrev pub GoesOn : {C : Type 0} → Process C → Option C → ℕ → Sat C → ℕ → Sat C → Type 0
GoesOn P None word m got m' = Unit {0}
GoesOn P (Some d) word m got m' = Gone P d word m got m'

-- a step o is due of a sender d, whose seat shows it as it was after its last step
pub record IsDue {C : Type 0} (P : Process C) (d : C) (word : ℕ) (m : Sat C) (words : ℕ) (o : Op) :
    Type 0 where
  pub shown : C
  pub actions : List Action
  pub accepts : Accepts P shown d actions
  pub me : m ≡ (
    Sender shown (sender_trail_in m.0) (notes_in m.0),
    out_with (P.move d) (carried_of (P.holds d)),
  )
  pub due : P.op d word ≡ Some o
  pub below : register o < (P.table_layout d).words
  pub wide : words ≡ (P.table_layout d).words

abbrev pub Due : {C : Type 0} → Process C → Option C → ℕ → Sat C → ℕ → Op → Type 0
Due P None word m words o = ⊥
Due P (Some d) word m words o = IsDue P d word m words o

-- ---- a receiver's loads
-- of the length, out of turn: what it knows of the log grows, up to the length that it found
pub record Learns {C : Type 0} (m : Sat C) (got : ℕ) (m' : Sat C) : Type 0 where
  pub known : List ℕ
  pub now : m' ≡ (with_receiver_view m.0 (receiver_view_knowing (receiver_view_in m.0) known), m.1)
  pub grows : IsPrefix (known_in m.0) known
  pub length_is : length known ≡ got
  pub within : FitsLog (table_layout_in m.0) known

-- What is known is a log that holds of a sender c, which has done these actions, exactly what it
-- has put and does not wait any more, and that reaches to each length that it has stored.
pub record KnowsSent {C : Type 0} (P : Process C) (c : C) (actions : List Action) (stored : ℕ)
    (known : List ℕ) : Type 0 where
  pub order : Order
  pub owners : List (ℕ × SenderNo)
  pub spelled : Spells (P.table_layout c).senders known order owners
  pub sent : map (λ (i : Item). i.message) (of_sender (P.me c) order) ++ P.waiting c ≡ puts actions
  pub long : stored ≤ length known

-- what the joined seats know of the log grows to this; a sender may have accepted more since its
-- last step; and two receivers agree
abbrev pub GrowsTo : {C : Type 0} → Process C → View C → List ℕ → Type 0
GrowsTo P (Maker x made) known = Unit {0}
GrowsTo P (Sender c sender_trail notes) known = Unit {0}
GrowsTo P (Tap x e) known = Unit {0}
GrowsTo P (Meeting x e y f) known =
    IsPrefix e.known known × IsPrefix f.known known × FitsLog x known × FitsLog y known
    × Agree e f
GrowsTo {C} P (Telling c sender_trail notes x e) known =
    IsPrefix e.known known × FitsLog x known
    × ((a : C) (actions : List Action) → Accepts P c a actions
    → KnowsSent P a (sender_trail.actions ++ actions) notes.stored known)
GrowsTo P Spent known = Unit {0}

-- of the length, by two joined seats
pub record Meets {C : Type 0} (P : Process C) (m : Sat C) (got : ℕ) (m' : Sat C) : Type 0 where
  pub known : List ℕ
  pub now : m' ≡ (all_knowing m.0 known, m.1)
  pub length_is : length known ≡ got
  pub grows : GrowsTo P m.0 known

-- two seats that met, the second a receiver's
pub record Met {C : Type 0} (P : Process C) (m n : Sat C) (got : ℕ) (m' n' : Sat C) : Type 0 where
  pub known : List ℕ
  pub first : m' ≡ (first_of (all_knowing (views_joined m.0 n.0) known), m.1)
  pub second : n' ≡ (second_of (all_knowing (views_joined m.0 n.0) known), [])
  pub length_is : length known ≡ got
  pub grows : GrowsTo P (views_joined m.0 n.0) known

-- of a cell of the log, out of turn: where a word that it knows stands there, and it has not passed
-- that, it finds it
pub record Reads {C : Type 0} (m : Sat C) (word got : ℕ) (m' : Sat C) : Type 0 where
  pub now : m' ≡ (
    with_receiver_view m.0 (receiver_view_after_load (receiver_view_in m.0) word),
    m.1,
  )
  pub got_is : (place : ℕ) → MayRead (table_layout_in m.0) (receiver_view_in m.0) place
      → place < length (known_in m.0) → word ≡ log_word_in m.0 place
      → got ≡ slice_index (known_in m.0) place

-- ---- a receiver's stores
-- of its place, by a turn
abbrev pub HasPassed : {C : Type 0} → Sat C → Sat C → Type 0
HasPassed m m' =
    m' ≡ (with_receiver_view m.0 (passed_on (receiver_view_in m.0) (passed_word_in m.0)), m.1)

-- it has left for good
abbrev pub HasLeft : {C : Type 0} → Sat C → Sat C → Type 0
HasLeft m m' =
    m' ≡ (with_receiver_view m.0 (left_for_good (receiver_view_in m.0) (passed_word_in m.0)), m.1)

-- it has left for good: of a log that is a ring by that store, and else by no step
pub record HasLeftBy {C : Type 0} (m m' : Sat C) : Type 0 where
  pub ring : 0 < (table_layout_in m.0).passers → HasLeft m m'
  pub flat : (table_layout_in m.0).passers ≡ 0 → m' ≡ m

-- ---- a receiver's compare_exchange on the passed place of another number: a fork
-- The seat that took this step, and found the number past all places, is joined with that of a new
-- receiver. That has this number, and is else what the one was before.
abbrev pub view_forked : {C : Type 0} → View C → (word number : ℕ) → View C
view_forked (Maker x made) word number = Maker x made
view_forked (Sender c sender_trail notes) word number = Sender c sender_trail notes
view_forked (Tap x e) word number =
    Meeting x (receiver_tried e word PASSED_ALL) x (forked_as e number)
view_forked (Meeting x e y f) word number = Meeting x e y f
view_forked (Telling c sender_trail notes x e) word number = Telling c sender_trail notes x e
view_forked Spent word number = Spent

-- the seat of the new one alone
abbrev pub fork_of : {C : Type 0} → View C → ℕ → View C
fork_of (Maker x made) number = Spent
fork_of (Sender c sender_trail notes) number = Spent
fork_of (Tap x e) number = Tap x (forked_as e number)
fork_of (Meeting x e y f) number = Spent
fork_of (Telling c sender_trail notes x e) number = Spent
fork_of Spent number = Spent

-- with the same number: a copy, where numbers are nobody's own
abbrev pub copy_of : {C : Type 0} → View C → View C
copy_of v = fork_of v (receiver_view_in v).me

-- it shows this step more, with what that found, and nothing else has changed
abbrev pub HasTried : {C : Type 0} → Sat C → (word found : ℕ) → Sat C → Type 0
HasTried m word found m' =
    m' ≡ (with_receiver_view m.0 (receiver_tried (receiver_view_in m.0) word found), m.1)

-- The step found this in this word. Where it was the number past all places the seat is two from
-- then on: nobody had the number whose passed place the word is.
pub record Forks {C : Type 0} (m : Sat C) (word got : ℕ) (m' : Sat C) : Type 0 where
  pub free : got ≡ PASSED_ALL → (number : ℕ) → word ≡ passed_word (table_layout_in m.0) number
      → m' ≡ (view_forked m.0 word number, m.1)
  pub taken : got ≢ PASSED_ALL → HasTried m word got m'

-- It shows that step on this word, with the number that was found there: the one past all places
-- exactly where a receiver was made.
abbrev pub HasTriedAt : {C : Type 0} → Sat C → (word : ℕ) (made : Bool) → Sat C → Type 0
HasTriedAt m word made m' =
    (found : ℕ) × (IsTrue made ↔ (found ≡ PASSED_ALL)) × HasTried m word found m'

-- of a log that is a ring it is that step on the passed place of this number, and else none
pub record HasTriedBy {C : Type 0} (m : Sat C) (number : ℕ) (made : Bool) (m' : Sat C) :
    Type 0 where
  pub ring : 0 < (table_layout_in m.0).passers
      → HasTriedAt m (passed_word (table_layout_in m.0) number) made m'
  pub flat : (table_layout_in m.0).passers ≡ 0 → m' ≡ m

-- what was forked off the one has this number of a ring, and is else a copy
pub record IsForkOf {C : Type 0} (m : Sat C) (number : ℕ) (n : Sat C) : Type 0 where
  pub ring : 0 < (table_layout_in m.0).passers → n ≡ (fork_of m.0 number, [])
  pub flat : (table_layout_in m.0).passers ≡ 0 → n ≡ m

-- ---- what these refuse, of a receiver of a ring
pub record ForkingRefuses (C : Type 0) (x : TableLayout) (e : ReceiverView) (number : ℕ) :
    Type 0 where
  -- a fork that has stored the place of its maker for what the maker had passed
  pub its_place : e.passed ≢ e.place → ¬ IsForkOf {C = C} (Tap x e, []) number
      (Tap x (record (forked_as e number) { passed = e.place }), [])
  -- one with another number
  pub other_number : (other : ℕ) → other ≢ number
      → ¬ IsForkOf {C = C} (Tap x e, []) number (Tap x (forked_as e other), [])
  -- one that has read nothing, of a maker that has read a word
  pub place_zero : 0 < e.place → ¬ IsForkOf {C = C} (Tap x e, []) number
      (Tap x (record (forked_as e number) { place = 0 }), [])
  -- a call without a step, whether it gives a receiver or none
  pub no_step : (made : Bool) → ¬ HasTriedBy {C = C} (Tap x e, []) number made (Tap x e, [])
  -- none though the number past all places was found, and one though another was
  pub none_made : ¬ HasTriedBy {C = C} (Tap x e, []) number false
      (Tap x (receiver_tried e (passed_word x number) PASSED_ALL), [])
  pub one_made : (found : ℕ) → found ≢ PASSED_ALL → ¬ HasTriedBy {C = C} (Tap x e, []) number true
      (Tap x (receiver_tried e (passed_word x number) found), [])
