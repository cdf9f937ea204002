-- A bus of either kind of rows as threads go by it: one automaton, by the one machine and what
-- leads to it.
use Rattle.std.specs.Prelude.{◌≡◌, ℕ, false, Option, Some, None, List, [], length, slice_get}
use Rattle.std.specs.Prelude.{slice_index, if◌then◌else◌}
use Rattle.bus_batch.specs.declared.readers.Place.TheVariants.{Between}
use Rattle.bus_deliverylog.specs.Receiving.{Receiving}
use Rattle.bus_tenure.specs.Core.{Election, Layout}
use Rattle.bus_core.specs.Keeping.{new_sender}
use Rattle.bus_core.specs.Senders.{Sender}
use Rattle.bus_world.specs.World.{IsLayout, no_stops}
use Rattle.bus_machine.specs.Machine.{Machine, Trails, Reached}
use Rattle.bus_machine.specs.Promise.{HasRows}
use Rattle.bus_automaton.specs.Processes.{Automaton}
use Rattle.bus_automaton.specs.SenderTrails.{SenderTrail}
use Rattle.bus_automaton.specs.OneProcess.{table_layout_by}

-- a machine, and what has happened to it
pub record MachineHistory (E : Type 0) : Type 0 where
  pub machine : Machine E
  pub trails : Trails

-- A receiver between frames: it has passed all that it has read, and no end was among that. So it
-- goes on with each word that may come.
pub record IsResting (v : Receiving) : Type 0 where
  pub going : v.ended ≡ false
  pub passed : v.passed ≡ v.place
  pub between : v.frames.place ≡ Between
  pub nothing : v.frames.bytes ≡ []

-- what a receiver has passed, until it leaves for good
abbrev pub passed_of : Option Receiving → Option ℕ
passed_of None = None
passed_of (Some v) = if v.gone then None else Some v.passed

-- Some events lead to it, of whichever senders and in any order, and receivers that join. It has a
-- receiver for each passed place and no others; of each that has not left, what it did was to go on
-- to where it has passed all. No event was a stop.
pub record IsMachineHistory {E : Type 0} (X : Election E) (x : Layout) (reuse : Option ℕ)
    (bases : List ℕ) (z : MachineHistory E) : Type 0 where
  pub served : IsLayout x
  pub has_rows : HasRows reuse
  pub layout : z.machine.layout ≡ x
  pub rows_are : z.machine.reuse ≡ reuse
  pub bases_are : z.machine.bases ≡ bases
  pub reached : Reached X z.machine z.trails
  pub many : length z.machine.receivers ≡ x.passers
  pub rest : (r : ℕ) (v : Receiving) → slice_get z.machine.receivers r ≡ Some v → v.gone ≡ false
      → IsResting v
  pub running : z.machine.stopped ≡ no_stops

-- all that a sender did, where the numbers began with these
abbrev pub trail_of : List ℕ → Trails → ℕ → SenderTrail
trail_of bases T p = record {
  first = slice_index bases p;
  actions = T.actions p;
  pins = T.pins p;
  reclaims = T.reclaims p;
}

-- with a row for each tenure, or with so many rows that are used again; its senders' numbers begin
-- with these
abbrev pub bus_of : {E : Type 0} → Election E → Layout → Option ℕ → List ℕ → Automaton (Sender E)
bus_of {E} X x reuse bases = record {
  table_layout = table_layout_by x reuse;
  bases = bases;
  started = λ p. new_sender x p reuse (slice_index bases p);
  State = MachineHistory E;
  IsReached = IsMachineHistory X x reuse bases;
  words = λ z. z.machine.words;
  home = λ z. z.machine.home;
  sender = λ z p. slice_get z.machine.senders p;
  sender_trail = λ z p. trail_of bases z.trails p;
  log = λ z. z.trails.log;
  passed = λ z r. passed_of (slice_get z.machine.receivers r);
}
