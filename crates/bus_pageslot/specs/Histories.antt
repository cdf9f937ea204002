-- The machine that stands behind a table, and what led to it.
use Rattle.std.specs.Prelude.{◌≡◌, ◌⊎◌, ℕ, ◌<◌, Option, Some, List, [], ◌∷◌, drop, slice_get}
use Rattle.std.specs.Prelude.{slice_index, slice_set}
use mathlib.Core.Option.{some}
use lib.ListN.{get_elem?}
use Rattle.atomic_table.specs.Table.{State, Act, Valid, homes_after, carried_after}
use Rattle.bus_register.specs.Words.{register}
use Rattle.bus_register.specs.declared.registers.Op.{Op}
use Rattle.bus_core.specs.Senders.{Sender}
use Rattle.bus_machine.specs.Bounding.{AreBounded, PinsAreBounded}
use Rattle.bus_machine.specs.Promise.{IsPromised}
use Rattle.bus_machine.specs.Telling.{LossesAreSeen}
use Rattle.bus_tenure.specs.Core.{Election, Layout}
use Rattle.bus_tenure.specs.declared.pages.Page.{Page}
use Rattle.bus_world.specs.Turning.{words_after}
use Rattle.bus_automaton.specs.OneAutomaton.{MachineHistory, IsMachineHistory, trail_of}
use Rattle.bus_automaton.specs.Lawful.{floor_in, log_from_floor}
use Rattle.bus_automaton.specs.OneProcess.{table_layout_by}
use Rattle.bus_automaton.specs.Processes.{TableLayout, Process, Automaton, log_below, log_in}
use Rattle.bus_automaton.specs.SenderTrails.{SenderTrail, new_sender_trail}
use Rattle.bus_pageslot.specs.Notes.{Notes}
use Rattle.bus_pageslot.specs.ReceiverViews.{ReceiverView}
use Rattle.bus_pageslot.specs.Rule.{Sat, TableInvariant, slot_of}
use Rattle.bus_pageslot.specs.Steps.{Gone}
use Rattle.bus_pageslot.specs.declared.rule.View.{View}
use Rattle.bus_pageslot.specs.declared.rule.View.TheVariants as view

-- the seat j is that of this sender, which has done this; or a receiver's seat is joined to it
abbrev pub Shown : {E : Type 0} → State (Option Page) (View (Sender E)) → ℕ → Sender E → SenderTrail
    → Type 0
Shown s j v sender_trail =
    ((notes : Notes) × (get_elem? s.views j ≡ some (view.Sender v sender_trail notes)))
    ⊎ ((notes : Notes) × (y : TableLayout) × (e : ReceiverView)
    × (get_elem? s.views j ≡ some (view.Telling v sender_trail notes y e)))

-- the sender p shows in a seat
pub record IsShown {E : Type 0} (s : State (Option Page) (View (Sender E))) (p : ℕ) : Type 0 where
  pub seat : ℕ
  pub sender : Sender E
  pub sender_trail : SenderTrail
  pub me : sender.core.me ≡ p
  pub shown : Shown s seat sender sender_trail

-- Events and joins led to a machine of these sizes, with the words and the page of this table; its
-- senders are those that the seats show, and did what these show. The machine's promise holds of
-- it, and whoever lost a tenure saw that.
pub record HasHistory {E : Type 0} (X : Election E) (x : Layout) (reuse : Option ℕ) (bases : List ℕ)
    (most : ℕ → ℕ → ℕ) (s : State (Option Page) (View (Sender E))) : Type 0 where
  pub history : MachineHistory E
  pub reached : IsMachineHistory X x reuse bases history
  pub words : s.words ≡ history.machine.words
  pub homes : s.homes ≡ slot_of history.machine.home ∷ []
  pub senders : (j : ℕ) (v : Sender E) (sender_trail : SenderTrail) → Shown s j v sender_trail
      → slice_get history.machine.senders v.core.me ≡ Some v
  pub trails : (j : ℕ) (v : Sender E) (sender_trail : SenderTrail) → Shown s j v sender_trail
      → trail_of bases history.trails v.core.me ≡ sender_trail
  -- each sender shows in a seat, or has none yet and has done nothing
  pub all : (p : ℕ) → p < x.senders
      → IsShown s p ⊎ (trail_of bases history.trails p ≡ new_sender_trail (slice_index bases p))
  -- From the floor on each word that was published stands in its cell. Where no word of the log is
  -- used again the floor is 0.
  pub shows : log_from_floor (table_layout_by x reuse) s.words
      ≡ drop (floor_in (table_layout_by x reuse) s.words) history.trails.log
  pub stands : x.passers ≡ 0 → log_below (table_layout_by x reuse) s.words ≡ history.trails.log
  pub promised : IsPromised X history.machine history.trails
  pub losses : LossesAreSeen history.machine history.trails.actions
  -- with so many senders and rounds an election has so many turns
  pub bounded : AreBounded X (most x.senders x.rounds) history.machine history.trails
      × PinsAreBounded history.trails

-- The rule holds of the table after the step o of this sender d. The seat that took it shows it,
-- and all other seats show what they showed. And this is so of all that was published by then.
pub record LeavesRule {C : Type 0} (P : Process C) (A : Automaton C)
    (s : State (Option Page) (View C)) (seat : ℕ) (m : Sat C) (d : C) (word : ℕ) (o : Op)
    (IsSo : List ℕ → Type 0) : Type 0 where
  pub view : View C
  -- what the step did with the slot
  pub act : Act (Option Page)
  pub valid : Valid s.homes m.1 act
  pub rule : TableInvariant P A record {
    words = words_after s.words (Some o);
    homes = homes_after s.homes m.1 act;
    views = slice_set s.views seat view;
  }
  pub shows : Gone P d word m (slice_index s.words (register o)) (view, carried_after m.1 act)
  pub so : IsSo (log_in A rule.state)

-- Executions lead to a state of this automaton with these words, and this is so of all that was
-- published by them; where no word of its log is used again, by whichever lead there.
pub record LeavesLog {C : Type 0} (A : Automaton C) (words : List ℕ) (IsSo : List ℕ → Type 0) :
    Type 0 where
  pub state : A.State
  pub reached : A.IsReached state
  pub words_are : A.words state ≡ words
  pub so : IsSo (log_in A state)
  pub log : A.table_layout.passers ≡ 0
      → (z : A.State) → A.IsReached z → A.words z ≡ words → IsSo (log_in A z)
