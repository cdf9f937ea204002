-- What is so of the seats of a bus whose rows are used again, of each sender by the steps of its
-- pins that its seat shows; and of what is past.
use Rattle.std.specs.Prelude.{◌≡◌, ◌≢◌, ℕ, ◌+◌, ◌/◌, ◌%◌, ◌<◌, ◌≤◌, Option, Some, None, List, []}
use Rattle.std.specs.Prelude.{slice_index}
use Rattle.atomic_table.specs.Table.{State}
use Rattle.bus_core.specs.Keeping.{reclaimer_in}
use Rattle.bus_core.specs.Senders.{Sender}
use Rattle.bus_core.specs.Reusing.Keeping.{held_of}
use Rattle.bus_machine.specs.Promise.{actions_in}
use Rattle.bus_presence.specs.Reclaimers.{Reclaiming}
use Rattle.bus_presence.specs.Reclamation.{ReclamationSizes}
use Rattle.bus_presence.specs.Standing.{Stands}
use Rattle.bus_register.specs.declared.registers.Op.{Op}
use Rattle.bus_register.specs.Words.{register}
use Rattle.bus_tenure.specs.declared.pages.Page.{Page}
use Rattle.bus_tenure.specs.declared.phases.Phase.TheVariants.{Electing}
use Rattle.bus_world.specs.Turning.{words_after}
use Rattle.bus_automaton.specs.Processes.{Process}
use Rattle.bus_automaton.specs.SenderTrails.{SenderTrail}
use Rattle.bus_pageslot.specs.Histories.{Shown}
use Rattle.bus_pageslot.specs.declared.rule.View.{View}

-- the tenure that is open, or whose page is out
abbrev pub tenure_in : List ℕ → ℕ
tenure_in words = slice_index words 1 / 2

pub record AreSafe {E : Type 0} (x : ReclamationSizes) (s : State (Option Page) (View (Sender E))) :
    Type 0 where
  -- whose election runs stands in its tenure, ..
  pub stands : (j : ℕ) (v : Sender E) (sender_trail : SenderTrail) (t : ℕ) (e : E)
      → Shown s j v sender_trail
      → v.core.phase ≡ Electing t e → Stands x v.core.me sender_trail.pins t
  -- .. which has come, and whose row has not gone on to a later one
  pub in_time : (j : ℕ) (v : Sender E) (sender_trail : SenderTrail) (t : ℕ) (e : E)
      → Shown s j v sender_trail
      → v.core.phase ≡ Electing t e → (t ≤ tenure_in s.words) × (tenure_in s.words < t + x.rows)
  -- once all presences have passed that a holder scans, nobody stands in a tenure of the row of the
  -- next one
  pub reclaimed : (j : ℕ) (v : Sender E) (sender_trail : SenderTrail) (t : ℕ) (w : Reclaiming)
      → Shown s j v sender_trail
      → held_of v.core.phase ≡ Some t → reclaimer_in v.reuse ≡ Some w → x.senders ≤ w.scanned
      → (k : ℕ) (u : Sender E) (other : SenderTrail) (past : ℕ) → Shown s k u other
      → Stands x u.core.me other.pins past
      → past % x.rows ≢ (tenure_in s.words + 1) % x.rows

-- ---- what is past
-- the row of this tenure is a later one's
abbrev pub HasGoneOn : Option ℕ → List ℕ → ℕ → Type 0
HasGoneOn None words t = ⊥
HasGoneOn (Some rows) words t = t + rows ≤ tenure_in words

-- A step of this sender leaves alone what is past: the stage does not fall; and the step is no
-- action in a tenure whose row has gone on to a later one.
pub record LeavesPast {C : Type 0} (P : Process C) (reuse : Option ℕ) (words : List ℕ) (d : C)
    (word : ℕ) (o : Op) : Type 0 where
  pub rises : slice_index words 1 ≤ slice_index (words_after words (Some o)) 1
  pub leaves : (t : ℕ) → HasGoneOn reuse words t
      → actions_in t (P.adds d (slice_index words (register o)) word).actions ≡ []
