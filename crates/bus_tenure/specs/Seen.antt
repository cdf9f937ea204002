-- What is seen of a sender from outside, beside its steps and answers.
use Rattle.std.specs.Prelude.{◌≡◌, ℕ, Bool, true, false, Option, Some, None}
use Rattle.bus_tenure.specs.declared.pages.Page.{Page}
use Rattle.bus_tenure.specs.declared.phases.Phase.{Phase}
use Rattle.bus_tenure.specs.declared.phases.Phase.TheVariants.{Resting, Electing, Taken, Holding}
use Rattle.bus_tenure.specs.declared.phases.Phase.TheVariants.{Giving}
use Rattle.bus_tenure.specs.Core.{Election}

-- the turns that are left, at most, until the page is taken: 0 where no election is begun
abbrev pub turns_of : {E : Type 0} → Election E → Phase E → ℕ
turns_of X Resting = 0
turns_of X (Electing t e) = X.turns_left e
turns_of X (Taken t) = 0
turns_of X (Holding t page stored published) = 0
turns_of X (Giving t reason) = 0

-- the tenure that is begun
abbrev pub tenure_of : {E : Type 0} → Phase E → Option ℕ
tenure_of Resting = None
tenure_of (Electing t e) = Some t
tenure_of (Taken t) = Some t
tenure_of (Holding t page stored published) = Some t
tenure_of (Giving t reason) = Some t

-- an election runs, or has chosen the sender
pub record HasElection {E : Type 0} (phase : Phase E) : Type 0 where
  pub tenure : ℕ
  pub election : E
  pub is : phase ≡ Electing tenure election

-- the page is taken and is to be laid
pub record AwaitsItsPage {E : Type 0} (phase : Phase E) : Type 0 where
  pub tenure : ℕ
  pub is : phase ≡ Taken tenure

-- a page stands before it
abbrev pub is_holding : {E : Type 0} → Phase E → Bool
is_holding Resting = false
is_holding (Electing t e) = false
is_holding (Taken t) = false
is_holding (Holding t page stored published) = true
is_holding (Giving t reason) = false

-- the floor of the page that lies before it; 0 where none does
abbrev pub floor_in : {E : Type 0} → Phase E → ℕ
floor_in Resting = 0
floor_in (Electing t e) = 0
floor_in (Taken t) = 0
floor_in (Holding t page stored published) = page.floor
floor_in (Giving t reason) = 0

-- its frame stands below the length, and it has the page still
pub record HoldsPublished {E : Type 0} (phase : Phase E) : Type 0 where
  pub tenure : ℕ
  pub page : Page
  pub stored : ℕ
  pub is : phase ≡ Holding tenure page stored true
