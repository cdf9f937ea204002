-- What a sender's look at the log tells: whether the frame of its batch fits.
use Rattle.std.specs.Prelude.{◌≡◌, ◌↔◌, ℕ, zero, suc, ◌+◌, ◌<◌, ◌≤◌, Bool, true, IsTrue, Option}
use Rattle.std.specs.Prelude.{Some, None, List, [], ◌∷◌, ◌++◌, All, ◌≢◌, length, slice_index}
use mathlib.Core.Option.{some}
use lib.ListN.{get_elem?}
use Rattle.atomic_table.specs.Table.{State}
use Rattle.bus_register.specs.declared.limits.TheConstants.{PASSED_ALL}
use Rattle.bus_batch.specs.Batches.{frame_of}
use Rattle.bus_batch.specs.Frames.{frame_words}
use Rattle.bus_tenure.specs.Core.{length_at}
use Rattle.bus_tenure.specs.declared.pages.Page.{Page}
use Rattle.bus_world.specs.Log.{floor_shown}
use Rattle.bus_automaton.specs.Processes.{TableLayout, Process, Automaton, passed_word}
use Rattle.bus_automaton.specs.SenderTrails.{SenderTrail}
use Rattle.bus_automaton.specs.declared.plans.Plan.{Plan}
use Rattle.bus_pageslot.specs.Notes.{Look, Notes}
use Rattle.bus_pageslot.specs.Rule.{Sat, TableInvariant, with_look}
use Rattle.bus_pageslot.specs.Seats.{SenderSeat, sender_trail_of, notes_of}
use Rattle.bus_pageslot.specs.Steps.{HasTried}
use Rattle.bus_pageslot.specs.declared.rule.View.{View}
use Rattle.bus_pageslot.specs.declared.rule.View.TheVariants.{Maker, Sender, Tap, Meeting, Telling}
use Rattle.bus_pageslot.specs.declared.rule.View.TheVariants.{Spent}

-- it shows a sender, alone
abbrev pub IsSenders : {C : Type 0} → View C → Type 0
IsSenders (Maker x made) = ⊥
IsSenders (Sender c sender_trail notes) = Unit {0}
IsSenders (Tap x e) = ⊥
IsSenders (Meeting x e y f) = ⊥
IsSenders (Telling c sender_trail notes x e) = ⊥
IsSenders Spent = ⊥

-- how many words the frame of its batch has, in whichever tenure
abbrev pub batch_len : {C : Type 0} → Process C → C → ℕ
batch_len P c = length (frame_words (frame_of (P.queue c) 0))

-- A frame of so many words fits by what the words of a table were found to be: it ends no further
-- behind the floor than the log is long. That is the least of the length and of all passed places,
-- and 0 where there are none.
abbrev pub FitsBy : TableLayout → (found : ℕ → ℕ) → (many : ℕ) → Type 0
FitsBy x found many =
    found length_at + many ≤ x.capacity + floor_shown found x.passed x.passers (found length_at)

-- This number stood in this word of a table of which the rule holds, and where a seat shows this.
pub record IsFoundOn {C : Type 0} (P : Process C) (A : Automaton C) (shown : View C)
    (at got : ℕ) : Type 0 where
  pub table : State (Option Page) (View C)
  pub rule : TableInvariant P A table
  pub here : (seat : ℕ) × (get_elem? table.views seat ≡ some shown)
  pub stood : slice_index table.words at ≡ got

-- A seat tried to fork, at this word: a number that is not the one past all places stood there, and
-- is what the seat shows of the try. If the word is the passed place of a number, a receiver has
-- that, or is yet to have it (`rule_refuses`).
pub record IsTakenOn {C : Type 0} (P : Process C) (A : Automaton C) (m : Sat C) (at : ℕ)
    (m' : Sat C) : Type 0 where
  pub found : ℕ
  pub other : found ≢ PASSED_ALL
  pub on : IsFoundOn P A m.0 at found
  pub shown : HasTried m at found m'

-- the same of the bus of the plan that a call picks
abbrev pub IsFoundBy : {C : Type 0} → Process C → (Plan → Automaton C) → Option Plan → View C → ℕ
    → ℕ → Type 0
IsFoundBy P A None shown at got = Unit {0}
IsFoundBy P A (Some plan) shown at got = IsFoundOn P (A plan) shown at got

-- Looks of a seat, one after another, led from one view of it to another: each found its number in
-- its word on a table of which the rule held, where the seat shows the looks before it. The seat
-- shows each, and nothing else has changed in its view.
abbrev pub LooksOn : {C : Type 0} → Process C → Automaton C → View C → List Look → View C → Type 0
LooksOn P A old [] new = new ≡ old
LooksOn P A old (look ∷ more) new =
    IsFoundOn P A old look.word look.found × LooksOn P A (with_look old look) more new

-- by what the words were found to be: the look at a word; those at so many passed places, from the
-- first receiver on; and all of one that asks for room, at the length and then at each passed place
abbrev pub look_at : (found : ℕ → ℕ) → ℕ → Look
look_at found word = record { word = word; found = found word }

abbrev pub passed_looks : TableLayout → (found : ℕ → ℕ) → ℕ → List Look
passed_looks x found zero = []
passed_looks x found (suc r) = passed_looks x found r ++ look_at found (passed_word x r) ∷ []

abbrev pub room_looks : TableLayout → (found : ℕ → ℕ) → List Look
room_looks x found = look_at found length_at ∷ passed_looks x found x.passers

-- A seat looked at the length and then at each passed place, once at each and in rising order of
-- receivers. These looks are what its view shows more than before. By what they found a frame of so
-- many words fits or does not, as it was answered.
pub record HasLooked {C : Type 0} (P : Process C) (A : Automaton C) (old : View C) (many : ℕ)
    (fits : Bool) (new : View C) : Type 0 where
  pub found : ℕ → ℕ
  pub looked : LooksOn P A old (room_looks A.table_layout found) new
  pub says : IsTrue fits ↔ FitsBy A.table_layout found many

-- The same of a sender, of the frame of its batch, on the bus of its own layout: it is as it was
-- but that it shows these looks behind those before, and it has done what it had done.
pub record LooksForRoom {C : Type 0} (P : Process C) (A : Automaton C) (old : SenderSeat C)
    (fits : Bool) (new : SenderSeat C) : Type 0 where
  pub core : new.core ≡ old.core
  pub table : new.seat.table_id ≡ old.seat.table_id
  pub id : new.seat.id ≡ old.seat.id
  pub slots : new.seat.me.1 ≡ old.seat.me.1
  pub did : sender_trail_of P new ≡ sender_trail_of P old
  pub layout : A.table_layout ≡ P.table_layout old.core
  pub looked : HasLooked P A old.seat.me.0 (batch_len P old.core) fits new.seat.me.0
  pub shown : (notes_of new).looks
      ≡ (notes_of old).looks ++ room_looks A.table_layout looked.found

-- The log was found so long before. A seat then looked at each passed place, once at each and in
-- rising order of receivers; and this is the floor by what was found: the least of these and of the
-- length, and 0 where there are none.
pub record FloorSeen {C : Type 0} (P : Process C) (A : Automaton C) (old : View C)
    (long floor : ℕ) (new : View C) : Type 0 where
  pub found : ℕ → ℕ
  pub first : found length_at ≡ long
  pub looked : LooksOn P A old (passed_looks A.table_layout found A.table_layout.passers) new
  pub floor_is : floor ≡ floor_shown found A.table_layout.passed A.table_layout.passers long

-- ---- what this refuses, of a sender with these notes
pub record LookingRefuses {C : Type 0} (P : Process C) (A : Automaton C) (c : C)
    (sender_trail : SenderTrail) (notes : Notes) (many : ℕ) : Type 0 where
  -- a yes where the frame is longer than the log
  pub longer : (new : View C) → A.table_layout.capacity < many
      → ¬ HasLooked P A (Sender c sender_trail notes) many true new
  -- and, of a log that is no ring, where it ends behind that even after what this sender has stored
  pub filled : (new : View C) → A.table_layout.passers ≡ 0
      → A.table_layout.capacity < notes.stored + many
      → ¬ HasLooked P A (Sender c sender_trail notes) many true new
  -- an answer by looks of which none is at the length, or none at the passed place of a receiver
  pub no_length : (more : List Look) (fits : Bool) → All (λ look. look.word ≢ length_at) more
      → ¬ HasLooked P A (Sender c sender_trail notes) many fits
      (Sender c sender_trail (record notes { looks = notes.looks ++ more }))
  pub left_out : (more : List Look) (fits : Bool) (r : ℕ) → r < A.table_layout.passers
      → All (λ look. look.word ≢ passed_word A.table_layout r) more
      → ¬ HasLooked P A (Sender c sender_trail notes) many fits
      (Sender c sender_trail (record notes { looks = notes.looks ++ more }))
  -- and one by more looks than these, or by fewer
  pub counted : (more : List Look) (fits : Bool) → length more ≢ 1 + A.table_layout.passers
      → ¬ HasLooked P A (Sender c sender_trail notes) many fits
      (Sender c sender_trail (record notes { looks = notes.looks ++ more }))
