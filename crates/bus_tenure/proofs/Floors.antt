-- That the floor of a page does not fall.
use Rattle.std.proofs.Common.{ℕ, ◌≤◌, Bool, true, false, cond, nat_lt, arith}
use Rattle.bus_register.specs.declared.limits.TheConstants.{PLACES}
use Rattle.bus_tenure.specs.declared.phases.Phase.{Phase}
use Rattle.bus_tenure.specs.declared.phases.Phase.TheVariants.{Resting, Electing, Taken, Holding}
use Rattle.bus_tenure.specs.declared.phases.Phase.TheVariants.{Giving}
use Rattle.bus_tenure.specs.Core.{Core}
use Rattle.bus_tenure.specs.Keeping.{SenderInvariant, PhaseKeeps}
use Rattle.bus_tenure.specs.Seen.{floor_in}
use Rattle.bus_tenure.specs.Situations.{lesser, core_floored, phase_floored}

-- what is no more than two numbers is no more than the lesser one
pub below_lesser : (n a b : ℕ) → n ≤ a → n ≤ b → n ≤ lesser a b
below_lesser n a b first second = by (nat_lt a b) where
  by : (c : Bool) → n ≤ cond c a b
  by true = first
  by false = second

-- a floor that the page gets lies before the one that it had only where this place does
pub floor_kept : {E : Type 0} (width : ℕ) (Belongs : ℕ → E → Type 0) (c : Core E) (least : ℕ)
    → SenderInvariant width Belongs c → floor_in c.phase ≤ least
    → floor_in c.phase ≤ floor_in (core_floored c least).phase
floor_kept {E} width Belongs c least k = by c.phase k.phase where
  by : (ph : Phase E) → PhaseKeeps Belongs c ph → floor_in ph ≤ least
      → floor_in ph ≤ floor_in (phase_floored least ph)
  by Resting h low = omega arith
  by (Electing t e) h low = omega arith
  by (Taken t) h low = omega arith
  by (Holding t page stored published) h low =
      below_lesser page.floor (lesser least page.words) PLACES
      (below_lesser page.floor least page.words low h.kept.behind) h.kept.few
  by (Giving t reason) h low = omega arith
