-- What stands for a receiver of a ring between any two steps, and what its stores leave.
use Rattle.std.specs.Prelude.{◌≡◌, ◌≢◌, ◌⊎◌, ℕ, ◌+◌, ◌<◌, ◌≤◌, true, false, List, length, take}
use Rattle.std.specs.Prelude.{Option, slice_index, slice_set}
use mathlib.Core.Option.{some}
use lib.ListN.{get_elem?}
use Rattle.atomic_table.specs.Table.{State}
use Rattle.bus_register.specs.declared.limits.TheConstants.{PASSED_ALL}
use Rattle.bus_batch.specs.Frames.{IsLog}
use Rattle.bus_tenure.specs.declared.pages.Page.{Page}
use Rattle.bus_automaton.specs.Lawful.{floor_in}
use Rattle.bus_automaton.specs.Processes.{TableLayout, Process, Automaton, log_cell, log_in}
use Rattle.bus_automaton.specs.Processes.{passed_word}
use Rattle.bus_pageslot.specs.ReceiverViews.{ReceiverView}
use Rattle.bus_pageslot.specs.Rule.{SeatsStaying, TableInvariant}
use Rattle.bus_pageslot.specs.declared.rule.View.{View}
use Rattle.bus_pageslot.specs.declared.rule.View.TheVariants.{Maker, Sender, Tap, Meeting, Telling}
use Rattle.bus_pageslot.specs.declared.rule.View.TheVariants.{Spent}

-- a view shows this receiver: by itself, or joined to another seat
abbrev pub ShowsReceiver : {C : Type 0} → ReceiverView → View C → Type 0
ShowsReceiver e (Maker x made) = ⊥
ShowsReceiver e (Sender c sender_trail notes) = ⊥
ShowsReceiver e (Tap x f) = f ≡ e
ShowsReceiver e (Meeting x f y g) = (f ≡ e) ⊎ (g ≡ e)
ShowsReceiver e (Telling c sender_trail notes x f) = f ≡ e
ShowsReceiver e Spent = ⊥

-- a view shows the receiver of this number, or it is that of the maker of seats, which has yet to
-- make the seat of this receiver
abbrev pub HasSeat : {C : Type 0} → ℕ → View C → Type 0
HasSeat me v =
    ((e : ReceiverView) × (e.me ≡ me) × ShowsReceiver e v)
    ⊎ ((x : TableLayout) × (made : ℕ) × (v ≡ Maker x made) × (made ≤ x.senders + me))

-- one of these views shows a receiver of this number that has not left
abbrev pub IsTaken : {C : Type 0} → List (View C) → ℕ → Type 0
IsTaken {C} views me =
    (j : ℕ) × (v : View C) × (e : ReceiverView) × (get_elem? views j ≡ some v) × ShowsReceiver e v
    × (e.me ≡ me) × (e.gone ≡ false)

-- Of a receiver that has not left, on a table with these words, where this is all that was
-- published.
pub record RingKeeps (x : TableLayout) (words log : List ℕ) (e : ReceiverView) : Type 0 where
  -- what it has passed are whole frames that it has read
  pub whole : IsLog x.senders (take e.passed e.known)
  -- the floor is not past that, and no more than a whole log was published since
  pub floor : floor_in x words ≤ e.passed
  pub room : length log ≤ x.capacity + e.passed
  -- from there on each word that was published stands in its cell
  pub stands : (place : ℕ) → e.passed ≤ place → place < length log
      → slice_index words (log_cell x place) ≡ slice_index log place

-- of any receiver, on a table whose seats have these views
pub record RingShows {C : Type 0} (x : TableLayout) (words log : List ℕ) (views : List (View C))
    (e : ReceiverView) : Type 0 where
  -- its passed place is a word of the table, and shows what it has passed
  pub below : e.me < x.passers
  pub word : e.gone ≡ false → slice_index words (passed_word x e.me) ≡ e.passed
  -- or that it has left, until another one has taken its number
  pub left : e.gone ≡ true
      → (slice_index words (passed_word x e.me) ≡ PASSED_ALL) ⊎ IsTaken views e.me
  pub within : e.passed ≤ e.place
  pub stays : e.gone ≡ false → RingKeeps x words log e

-- ---- a receiver's store, in its passed place
-- it leaves the length, the stage and each cell of the log as they were
pub record StoresApart (x : TableLayout) (words : List ℕ) (me number : ℕ) : Type 0 where
  pub length_same : slice_index (slice_set words (passed_word x me) number) 0 ≡ slice_index words 0
  pub stage_same : slice_index (slice_set words (passed_word x me) number) 1 ≡ slice_index words 1
  pub cells_same : (place : ℕ)
      → slice_index (slice_set words (passed_word x me) number) (log_cell x place)
      ≡ slice_index words (log_cell x place)

-- the rule holds of the table after it, with the same page, and the same was published
pub record LeavesAll {C : Type 0} (P : Process C) (A : Automaton C)
    (s : State (Option Page) (View C)) (r : TableInvariant P A s) (seat word number : ℕ)
    (view : View C) : Type 0 where
  pub rule : TableInvariant P A record {
    words = slice_set s.words word number;
    homes = s.homes;
    views = slice_set s.views seat view;
  }
  pub log : log_in A rule.state ≡ log_in A r.state

-- ---- what the rule refuses, of the table of a ring
pub record RuleRefuses {C : Type 0} (P : Process C) (A : Automaton C)
    (s : State (Option Page) (View C)) : Type 0 where
  -- a word was overwritten that a receiver knows and has not passed
  pub overwritten : (j : ℕ) (v : View C) (e : ReceiverView) (place : ℕ)
      → get_elem? s.views j ≡ some v → ShowsReceiver e v → e.gone ≡ false → e.passed ≤ place
      → place < length e.known
      → slice_index s.words (log_cell A.table_layout place) ≢ slice_index e.known place
      → ¬ TableInvariant P A s
  -- more than a whole log lies behind what a receiver has passed
  pub overrun : (j : ℕ) (v : View C) (e : ReceiverView) → get_elem? s.views j ≡ some v
      → ShowsReceiver e v → e.gone ≡ false
      → A.table_layout.capacity + e.passed < slice_index s.words 0 → ¬ TableInvariant P A s
  -- a passed place with another number than its receiver has passed
  pub not_shown : (j : ℕ) (v : View C) (e : ReceiverView) → get_elem? s.views j ≡ some v
      → ShowsReceiver e v → e.gone ≡ false
      → slice_index s.words (passed_word A.table_layout e.me) ≢ e.passed → ¬ TableInvariant P A s
  -- a receiver that has passed what it has not read, or a place within a frame
  pub past_place : (j : ℕ) (v : View C) (e : ReceiverView) → get_elem? s.views j ≡ some v
      → ShowsReceiver e v → e.place < e.passed → ¬ TableInvariant P A s
  pub within_frame : (j : ℕ) (v : View C) (e : ReceiverView) → get_elem? s.views j ≡ some v
      → ShowsReceiver e v → e.gone ≡ false
      → ¬ IsLog A.table_layout.senders (take e.passed e.known) → ¬ TableInvariant P A s
  -- one that has left, and whose passed place does not show that, where no other has its number
  pub left_unshown : (j : ℕ) (v : View C) (e : ReceiverView) → get_elem? s.views j ≡ some v
      → ShowsReceiver e v → e.gone ≡ true → ¬ IsTaken s.views e.me
      → slice_index s.words (passed_word A.table_layout e.me) ≢ PASSED_ALL
      → ¬ TableInvariant P A s
  -- two seats that show receivers of one number, neither of which has left
  pub one_number : (i j : ℕ) (v w : View C) (e f : ReceiverView) → i ≢ j
      → get_elem? s.views i ≡ some v → ShowsReceiver e v → e.gone ≡ false
      → get_elem? s.views j ≡ some w → ShowsReceiver f w → f.gone ≡ false → e.me ≡ f.me
      → ¬ TableInvariant P A s
  -- a passed place that holds up the ring for nobody: no receiver of its number that has not left
  -- shows in a view, nor is one yet to have its seat made
  pub unattended : (me : ℕ) → me < A.table_layout.passers
      → slice_index s.words (passed_word A.table_layout me) ≢ PASSED_ALL
      → ((j : ℕ) (v : View C) → get_elem? s.views j ≡ some v → ¬ SeatsStaying me v)
      → ¬ TableInvariant P A s
  -- a receiver that shows in no view, and whose seat is not yet to be made
  pub unseen : (me : ℕ) → me < A.table_layout.passers
      → ((j : ℕ) (v : View C) → get_elem? s.views j ≡ some v → ¬ HasSeat me v)
      → ¬ TableInvariant P A s
