-- What every participant keeps.
use Rattle.std.specs.Prelude.{◌≡◌, ◌≢◌, ℕ, ◌+◌, ◌<◌, ◌≤◌, false, true, Option, Some, None}
use Rattle.bus_register.specs.declared.registers.SenderNo.{SenderNo}
use Rattle.bus_register.specs.declared.limits.TheConstants.{TENURES}
use Rattle.bus_presence.specs.Reclaimers.{Reclaiming, is_reclaimed}
use Rattle.bus_presence.specs.Reclamation.{ReclamationSizes, IsReady, presence_at, row_of}
use Rattle.bus_presence.specs.declared.pins.Pin.{Pin}
use Rattle.bus_presence.specs.declared.pins.Pin.TheVariants.{Away, Announcing, Validating, Pinned}
use Rattle.bus_presence.specs.declared.pins.Pin.TheVariants.{Unpinning, Invalidated}
use Rattle.bus_tenure.specs.Core.{Core, row_at}
use Rattle.bus_tenure.specs.Causes.{LooksForTenure}
use Rattle.bus_tenure.specs.Keeping.{AreSizes}
use Rattle.bus_tenure.specs.declared.phases.Reason.{Reason}
use Rattle.bus_tenure.specs.declared.phases.Reason.TheVariants.{Sent, FoundEnd, NoRoom}
use Rattle.bus_tenure.specs.declared.phases.Phase.{Phase}
use Rattle.bus_tenure.specs.declared.phases.Phase.TheVariants.{Resting, Electing, Taken, Holding}
use Rattle.bus_tenure.specs.declared.phases.Phase.TheVariants.{Giving}
use Rattle.bus_core.specs.declared.limits.TheConstants.{LEAST_ROWS_AGAIN, MOST_ROWS_AGAIN}
use Rattle.bus_core.specs.Reusing.Turns.{Participant, sizes_of}
use Rattle.bus_core.specs.declared.reuses.Passing.{Passing}

-- it has begun no tenure yet, and may begin this one
pub record IsBound {E : Type 0} (c : Core E) (t : ℕ) : Type 0 where
  pub looks : LooksForTenure c
  pub least : c.least ≤ t
  pub below : t < c.layout.rows

-- its election of this tenure runs, or has chosen it
pub record IsPinned {E : Type 0} (Belongs : ℕ → E → Type 0) (c : Core E) (t : ℕ) : Type 0 where
  pub election : E
  pub is : c.phase ≡ Electing t election
  pub belongs : Belongs (row_at c.layout t) election
  pub below : t < c.layout.rows

-- no election runs
abbrev pub IsOutside : {E : Type 0} → Phase E → Type 0
IsOutside Resting = Unit {0}
IsOutside (Electing t e) = false ≡ true
IsOutside (Taken t) = Unit {0}
IsOutside (Holding t page stored published) = Unit {0}
IsOutside (Giving t reason) = Unit {0}

-- an election runs only of a sender that stands in its tenure
abbrev pub PinKeeps : {E : Type 0} → (ℕ → E → Type 0) → Core E → Pin → Type 0
PinKeeps Belongs c Away = IsOutside c.phase
PinKeeps Belongs c (Announcing t) = IsBound c t
PinKeeps Belongs c (Validating t) = IsBound c t
PinKeeps Belongs c (Pinned t) = IsPinned Belongs c t
PinKeeps Belongs c (Unpinning t) = IsOutside c.phase
PinKeeps Belongs c (Invalidated t) = c.phase ≡ Resting

-- the tenure whose page it has taken
abbrev pub held_of : {E : Type 0} → Phase E → Option ℕ
held_of Resting = None
held_of (Electing t e) = None
held_of (Taken t) = Some t
held_of (Holding t page stored published) = Some t
held_of (Giving t reason) = Some t

-- it makes the row of the tenure after this one ready, which was used before
pub record IsReclaimerAfter (x : ReclamationSizes) (t : ℕ) (s : Reclaiming) : Type 0 where
  pub used : x.rows ≤ t + 1
  pub past : s.past + x.rows ≡ t + 1
  pub senders : s.senders ≡ x.senders
  pub presences : s.presences ≡ presence_at x 0
  pub row : s.row ≡ row_of x (t + 1)
  pub width : s.width ≡ x.width

-- the row of the tenure after this one is ready: it was never used before, or a reclamation of just
-- this row is done
pub record IsRowReady (x : ReclamationSizes) (t : ℕ) (reclaimer : Option Reclaiming) : Type 0 where
  pub ready : IsReady x t reclaimer
  pub of : (s : Reclaiming) → reclaimer ≡ Some s → IsReclaimerAfter x t s

-- Only a holder of the page reclaims, for the tenure after its own. Once it has handed the page on,
-- it is done with that.
pub record IsHeldReclaimer {E : Type 0} (x : ReclamationSizes) (phase : Phase E) (s : Reclaiming) :
    Type 0 where
  pub tenure : ℕ
  pub held : held_of phase ≡ Some tenure
  pub after : IsReclaimerAfter x tenure s
  pub handed : (t : ℕ) (reason : Reason) → phase ≡ Giving t reason → is_reclaimed s ≡ true

-- a holder that does not reclaim has a tenure whose next one uses a row that was never used before
abbrev pub ReclaimerKeeps : {E : Type 0} → ReclamationSizes → Phase E → Option Reclaiming → Type 0
ReclaimerKeeps x phase None = (t : ℕ) → held_of phase ≡ Some t → t + 1 < x.rows
ReclaimerKeeps x phase (Some s) = IsHeldReclaimer x phase s

-- Who remembers an owner, which is another sender, parts from the tenure that it lost, and has
-- begun no other. Who parts from a tenure and remembers no owner has taken its page.
pub record HasLost {E : Type 0} (me : ℕ) (phase : Phase E) (pin : Pin) (owner : SenderNo) :
    Type 0 where
  pub tenure : ℕ
  pub parts : pin ≡ Unpinning tenure
  pub rests : phase ≡ Resting
  pub other : owner.0 ≢ me

abbrev pub LostKeeps : {E : Type 0} → ℕ → Phase E → Pin → Option SenderNo → Type 0
LostKeeps me phase pin None = (t : ℕ) → pin ≡ Unpinning t → held_of phase ≡ Some t
LostKeeps me phase pin (Some o) = HasLost me phase pin o

-- who has handed its page on for want of room has loaded all passed places, of which there are so
-- many
abbrev pub LoadedKeeps : {E : Type 0} → ℕ → Phase E → Passing → Type 0
LoadedKeeps passers Resting p = Unit {0}
LoadedKeeps passers (Electing t e) p = Unit {0}
LoadedKeeps passers (Taken t) p = Unit {0}
LoadedKeeps passers (Holding t page stored published) p = Unit {0}
LoadedKeeps passers (Giving t Sent) p = Unit {0}
LoadedKeeps passers (Giving t FoundEnd) p = Unit {0}
LoadedKeeps passers (Giving t NoRoom) p = passers ≤ p.loaded

pub record ParticipantKeeps {E : Type 0} (width : ℕ) (Belongs : ℕ → E → Type 0)
    (v : Participant E) : Type 0 where
  pub sizes : AreSizes v.core.layout width
  pub tenures : v.core.layout.rows ≡ TENURES
  pub rows_some : LEAST_ROWS_AGAIN ≤ v.rows
  pub rows_few : v.rows ≤ MOST_ROWS_AGAIN
  pub me_below : v.core.me < v.core.layout.senders
  pub pin : PinKeeps Belongs v.core v.pin
  pub reclaimer : ReclaimerKeeps (sizes_of v) v.core.phase v.reclaimer
  pub lost : LostKeeps v.core.me v.core.phase v.pin v.lost
  pub loaded : LoadedKeeps v.core.layout.passers v.core.phase v.passed
