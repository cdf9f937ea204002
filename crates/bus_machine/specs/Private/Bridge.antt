-- With None the machine is the bus with a row for each tenure; with Some it is a protocol whose
-- rows are used again.
use Rattle.std.specs.Prelude.{◌≡◌, ℕ, ◌+◌, Option, Some, None, List, length, map, slice_get}
use Rattle.bus_core.specs.Keeping.{reclaimer_in}
use Rattle.bus_core.specs.Reusing.Keeping.{held_of}
use Rattle.bus_core.specs.Reusing.Participants.{log_from}
use Rattle.bus_core.specs.Reusing.Turns.{Participant}
use Rattle.bus_core.specs.Reusing.Passing.{passing_begun}
use Rattle.bus_core.specs.Senders.{Sender}
use Rattle.bus_core.specs.Private.Bridge.{with_a_row_each, with_rows_again}
use Rattle.bus_core.specs.declared.reuses.Passing.{Passing}
use Rattle.bus_core.specs.declared.reuses.Reuse.{Reuse}
use Rattle.bus_deliverylog.specs.Receiving.{Receiving}
use Rattle.bus_presence.specs.Reclaimers.{Reclaiming}
use Rattle.bus_tenure.specs.Core.{Core, Election, Layout}
use Rattle.bus_world.specs.Private.CyclicProtocols.{CyclicProtocol, Led}
use Rattle.bus_world.specs.Private.Answers.{Answers}
use Rattle.bus_world.specs.Private.Trails.{Trails as PlainTrails, Reached as PlainReached}
use Rattle.bus_world.specs.Private.Trails.{trails_grown as plain_grown}
use Rattle.bus_world.specs.Private.Machines.{Bus, IsEvent, Happens as PlainHappens}
use Rattle.bus_world.specs.World.{Event}
use Rattle.bus_world.specs.declared.events.Answer.{Answer}
use Rattle.bus_machine.specs.Machine.{Machine, Happens, Trails, trails_grown}
use Rattle.bus_machine.specs.Promise.{reclamation_of}

-- the bus with a row for each tenure, of a sitting that began with these numbers
abbrev pub of_bus : {E : Type 0} → List ℕ → Layout → Bus E → Machine E
of_bus bases x b = record {
  layout = x;
  reuse = None;
  bases = bases;
  words = b.side.words;
  home = b.side.home;
  senders = map with_a_row_each b.side.senders;
  receivers = b.receivers;
  stopped = b.stopped;
  owners = b.side.owners;
}

abbrev pub plain_trails : Trails → PlainTrails
plain_trails T = record { actions = T.actions; heard = T.heard; log = T.log }

-- ---- one event
-- with a row for each tenure it happens to that bus, is answered alike, and adds the same to the
-- trails
pub record IsPlainEvent {E : Type 0} (X : Election E) (bases : List ℕ) (x : Layout) (b : Bus E)
    (e : Event) (a : Answer) (m : Machine E) : Type 0 where
  pub bus : Bus E
  pub is : m ≡ of_bus bases x bus
  pub event : IsEvent e
  pub happens : PlainHappens X b e bus
  pub answers : Answers X b e a bus
  pub trails : (T : Trails)
      → plain_grown X b e a (plain_trails T)
      ≡ plain_trails (trails_grown X (of_bus bases x b) e a T)

-- no receiver has a passed place
abbrev pub NonePasses : List Receiving → Type 0
NonePasses receivers =
    (r : ℕ) (v : Receiving) → slice_get receivers r ≡ Some v → v.passed_at ≡ None

abbrev pub HappensAtNone : {E : Type 0} → Election E → Type 0
HappensAtNone {E} X =
    (bases : List ℕ) (x : Layout) (b : Bus E) (e : Event) (a : Answer) (m : Machine E)
    → NonePasses b.receivers → Happens X (of_bus bases x b) e a m
    → IsPlainEvent X bases x b e a m

-- ---- what is reached
pub record IsPlain {E : Type 0} (X : Election E) (m : Machine E) (T : Trails) : Type 0 where
  pub bus : Bus E
  pub is : m ≡ of_bus m.bases m.layout bus
  pub reached : PlainReached X m.bases m.layout bus (plain_trails T)

-- ---- with rows that are used again
abbrev pub core_in : {E : Type 0} → Option (Sender E) → Option (Core E)
core_in None = None
core_in (Some v) = Some v.core

-- which passed places it has loaded
abbrev pub passing_in : Option Reuse → Passing
passing_in None = passing_begun
passing_in (Some r) = r.passed

-- as a protocol, with the reclaimer of who holds the page, the passed places that it has loaded,
-- and who took the pages
abbrev pub protocol_of : {E : Type 0} → Machine E → Option Reclaiming → Passing → List ℕ
    → CyclicProtocol E
protocol_of m reclaimer passing owners = record {
  bases = m.bases;
  reclamation = reclamation_of m reclaimer;
  passing = passing;
  home = m.home;
  senders = λ p. core_in (slice_get m.senders p);
  receivers = slice_get m.receivers;
  owners = owners;
}

-- the trails lead to its protocol, with some list of owners
pub record IsLed {E : Type 0} (X : Election E) (rows : ℕ) (m : Machine E) (T : Trails) :
    Type 0 where
  pub reuse : m.reuse ≡ Some rows
  pub words : length m.words ≡ log_from m.layout rows + m.layout.capacity
  pub participants : (p : ℕ) (v : Sender E) → slice_get m.senders p ≡ Some v
      → (u : Participant E) × (v ≡ with_rows_again u) × (u.rows ≡ rows)
  pub owners : List ℕ
  pub reclaimer : Option Reclaiming
  pub holder : (p : ℕ) (v : Sender E) (t : ℕ) → slice_get m.senders p ≡ Some v
      → held_of v.core.phase ≡ Some t → reclaimer_in v.reuse ≡ reclaimer
  pub passing : Passing
  pub passed : (p : ℕ) (v : Sender E) (t : ℕ) → slice_get m.senders p ≡ Some v
      → held_of v.core.phase ≡ Some t → passing_in v.reuse ≡ passing
  pub led : Led X m.layout rows (protocol_of m reclaimer passing owners) T.pins T.actions T.heard
      T.log
