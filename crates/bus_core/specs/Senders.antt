-- One sender: what it holds, and the situations that it can be in. Its rows are used again where it
-- has a Reuse; with None each tenure has a row of its own.
use Rattle.std.specs.Prelude.{ℕ, ◌+◌, Option, Some, None, nat_lt, if◌then◌else◌}
use Rattle.bus_presence.specs.Reclaimers.{Reclaiming}
use Rattle.bus_presence.specs.declared.pins.Pin.{Pin}
use Rattle.bus_presence.specs.declared.pins.Pin.TheVariants.{Away, Announcing, Validating, Pinned}
use Rattle.bus_presence.specs.declared.pins.Pin.TheVariants.{Unpinning, Invalidated}
use Rattle.bus_tenure.specs.Core.{Core, Election, Layout, log_at}
use Rattle.bus_tenure.specs.declared.phases.Reason.{Reason}
use Rattle.bus_tenure.specs.declared.phases.Reason.TheVariants.{Sent, FoundEnd, NoRoom}
use Rattle.bus_tenure.specs.Situations.{Situation as Own, IsClosed, IsIdle, IsSpent, LooksAtStage}
use Rattle.bus_tenure.specs.Situations.{Elects, TakesPage, AwaitsPage, StoresWord, StoresLength}
use Rattle.bus_tenure.specs.Situations.{GivesBack, HasHanded, situation_of as own_situation}
use Rattle.bus_core.specs.Reusing.Participants.{passed_from, log_from}
use Rattle.bus_core.specs.Reusing.Passing.{passing_left}
use Rattle.bus_core.specs.Reusing.Turns.{Participant}
use Rattle.bus_core.specs.declared.reuses.Passing.{Passing}
use Rattle.bus_core.specs.declared.reuses.Reuse.{Reuse}

pub record Sender (E : Type 0) : Type 0 where
  pub core : Core E
  pub reuse : Option Reuse

-- where rows are used again, as a participant
abbrev pub participant_of : {E : Type 0} → Core E → Reuse → Participant E
participant_of c r = record {
  core = c;
  pin = r.pin;
  reclaimer = r.reclaimer;
  passed = r.passed;
  lost = r.lost;
  rows = r.rows;
}

-- ---- the words
-- where the log begins
abbrev pub log_start : Layout → Option Reuse → ℕ
log_start x None = log_at x
log_start x (Some r) = log_from x r.rows

-- where the passed places begin, which only rows that are used again have
abbrev pub passed_start : Layout → Option Reuse → ℕ
passed_start x None = log_at x
passed_start x (Some r) = passed_from x r.rows

-- how many words the bus has
abbrev pub words_all : {E : Type 0} → Sender E → ℕ
words_all v = log_start v.core.layout v.reuse + v.core.layout.capacity

-- ---- the situations
pub data Situation (E : Type 0) : Type 0 where
  -- in a tenure, or before it
  Does : Own E → Situation E
  -- it stores its presence
  Announces : (tenure : ℕ) → Situation E
  -- its presence stands, and it looks at the stage again
  Validates : (tenure : ℕ) → Situation E
  -- it has lost the tenure, or taken its page, and clears its presence
  Unpins : (tenure : ℕ) → Situation E
  -- the stage was another tenure's, and it clears its presence
  Withdraws : (tenure : ℕ) → Situation E
  -- as a holder it loads the next presence
  Scans : Reclaiming → Situation E
  -- and clears the next word of the next tenure's row
  Clears : Reclaiming → Situation E
  -- as a holder without room it loads the next passed place
  ReadsPassed : (tenure : ℕ) → Passing → Situation E

abbrev pub reclaiming : {E : Type 0} → Option Reclaiming → Own E → Situation E
reclaiming None z = Does z
reclaiming (Some s) z =
    if nat_lt s.scanned s.senders then Scans s
    else (if nat_lt s.cleared s.width then Clears s else Does z)

-- whose frame does not fit first loads what is left of the passed places
abbrev pub passing : {E : Type 0} → Option Passing → ℕ → Reason → Situation E → Situation E
passing l t Sent z = z
passing l t FoundEnd z = z
passing None t NoRoom z = z
passing (Some p) t NoRoom z = ReadsPassed t p

-- what is left of these and of a reclamation comes before the page is given back
abbrev pub at_home : {E : Type 0} → Option Passing → Option Reclaiming → Own E → Situation E
at_home l s IsClosed = Does IsClosed
at_home l s IsIdle = Does IsIdle
at_home l s IsSpent = Does IsSpent
at_home l s LooksAtStage = Does LooksAtStage
at_home l s (Elects t e) = Does (Elects t e)
at_home l s (TakesPage t) = Does (TakesPage t)
at_home l s (AwaitsPage t) = Does (AwaitsPage t)
at_home l s (StoresWord t page stored) = Does (StoresWord t page stored)
at_home l s (StoresLength t page stored) = Does (StoresLength t page stored)
at_home l s (GivesBack t page reason) = passing l t reason (reclaiming s (GivesBack t page reason))
at_home l s (HasHanded t reason) = Does (HasHanded t reason)

-- a step of its pin comes first
abbrev pub pinning : {E : Type 0} → Pin → Option Passing → Option Reclaiming → Own E → Situation E
pinning Away l s z = at_home l s z
pinning (Announcing t) l s z = Announces t
pinning (Validating t) l s z = Validates t
pinning (Pinned t) l s z = at_home l s z
pinning (Unpinning t) l s z = Unpins t
pinning (Invalidated t) l s z = Withdraws t

-- of a bus of so many passed places
abbrev pub situation_by : {E : Type 0} → ℕ → Option Reuse → Own E → Situation E
situation_by passers None z = Does z
situation_by passers (Some r) z = pinning r.pin (passing_left passers r.passed) r.reclaimer z

abbrev pub situation : {E : Type 0} → Election E → Sender E → Situation E
situation X v = situation_by v.core.layout.passers v.reuse (own_situation X v.core)
