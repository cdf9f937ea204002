-- On which word a sender takes its next step.
use Rattle.std.specs.Prelude.{◌≡◌, ℕ, ◌+◌, ◌*◌, ◌<◌, ◌≤◌, Option, Some, None, IfSome, IsSome}
use Rattle.bus_presence.specs.Reclamation.{presence_at, row_of}
use Rattle.bus_presence.specs.Reclaimers.{Reclaiming}
use Rattle.bus_presence.specs.declared.pins.Pin.TheVariants.{Pinned}
use Rattle.bus_tenure.specs.Core.{Layout, length_at, stage_at, row_at}
use Rattle.bus_tenure.specs.Situations.{IsClosed, IsIdle, IsSpent, LooksAtStage, Elects, TakesPage}
use Rattle.bus_tenure.specs.Situations.{AwaitsPage, StoresWord, StoresLength, GivesBack, HasHanded}
use Rattle.bus_core.specs.Reusing.Participants.{sizes_with}
use Rattle.bus_core.specs.Reusing.Keeping.{held_of}
use Rattle.bus_core.specs.declared.reuses.Reuse.{Reuse}
use Rattle.bus_core.specs.Senders.{Sender, Situation, Does, Announces, Validates, Unpins}
use Rattle.bus_core.specs.Senders.{Withdraws, Scans, Clears, ReadsPassed, passed_start, log_start}
use Rattle.bus_core.specs.declared.limits.TheConstants.{PASSED_APART}
use Rattle.bus_core.specs.declared.reuses.Passing.{Passing}
use Rattle.bus_core.specs.Table.{presence_of}

-- where the row begins that this tenure uses
abbrev pub row_start : Layout → Option Reuse → ℕ → ℕ
row_start x None t = row_at x t
row_start x (Some r) t = row_of (sizes_with x r.rows) t

-- on a word of the row of this tenure
pub record IsInRow (x : Layout) (reuse : Option Reuse) (t r : ℕ) : Type 0 where
  pub place : ℕ
  pub below : place < x.width
  pub is : r ≡ row_start x reuse t + place

-- where rows are used again, its presence stands for this tenure
abbrev pub StandsIn : Option Reuse → ℕ → Type 0
StandsIn reuse t = IfSome reuse (λ r. r.pin ≡ Pinned t)

-- on the presence that the reclamation scans next, which is a sender's
pub record IsAsked (x : Layout) (s : Reclaiming) (r : ℕ) : Type 0 where
  pub below : s.scanned < x.senders
  pub is : r ≡ presence_at (sizes_with x 0) s.scanned

-- on a word of the row of the tenure after the one whose page it has
pub record IsInNextRow {E : Type 0} (v : Sender E) (r : ℕ) : Type 0 where
  pub tenure : ℕ
  pub held : held_of v.core.phase ≡ Some tenure
  pub row : IsInRow v.core.layout v.reuse (tenure + 1) r

-- on the passed place that it loads next, which is one of those of the bus
pub record IsPassed (x : Layout) (reuse : Option Reuse) (p : Passing) (r : ℕ) : Type 0 where
  pub below : p.loaded < x.passers
  pub again : IsSome reuse
  pub is : r ≡ passed_start x reuse + PASSED_APART * p.loaded

-- A step on a word of a row is the election's, on the row of the tenure that the sender stands in,
-- or the reclamation's, in the row that it clears. An election's tenure is one of those of the bus.
-- A step on a presence is on the sender's own, or on the one that the reclamation asks. One on a
-- passed place lies before the log.
abbrev pub LiesAt : {E : Type 0} → Sender E → Situation E → ℕ → Type 0
LiesAt v (Does IsClosed) r = ⊥
LiesAt v (Does IsIdle) r = ⊥
LiesAt v (Does IsSpent) r = ⊥
LiesAt v (Does LooksAtStage) r = r ≡ stage_at
LiesAt v (Does (Elects t e)) r =
    (t < v.core.layout.rows) × StandsIn v.reuse t × IsInRow v.core.layout v.reuse t r
LiesAt v (Does (TakesPage t)) r = (t < v.core.layout.rows) × StandsIn v.reuse t × (r ≡ stage_at)
LiesAt v (Does (AwaitsPage t)) r = ⊥
LiesAt v (Does (StoresWord t page stored)) r = log_start v.core.layout v.reuse ≤ r
LiesAt v (Does (StoresLength t page stored)) r = r ≡ length_at
LiesAt v (Does (GivesBack t page reason)) r = r ≡ stage_at
LiesAt v (Does (HasHanded t reason)) r = r ≡ stage_at
LiesAt v (Announces t) r = r ≡ presence_of v.core
LiesAt v (Validates t) r = r ≡ stage_at
LiesAt v (Unpins t) r = r ≡ presence_of v.core
LiesAt v (Withdraws t) r = r ≡ presence_of v.core
LiesAt v (Scans s) r = IsAsked v.core.layout s r
LiesAt v (Clears s) r = IsInNextRow v r
LiesAt v (ReadsPassed t p) r = IsPassed v.core.layout v.reuse p r
