-- A holder clears words of the row of the next tenure alone, in which nobody stands.
use Rattle.std.proofs.Common.{◌≡◌, ◌≢◌, ℕ, ◌+◌, ◌<◌, Bool, true, false, cond, Option, Some, None}
use Rattle.std.proofs.Common.{nat_lt, sym, ◌∙◌, arith}
use Rattle.std.proofs.lemmas.Grind.{common_steps}
use Rattle.bus_register.specs.declared.registers.Op.TheVariants.{Store}
use Rattle.bus_presence.proofs.ReclamationKept.{rows_apart}
use Rattle.bus_presence.specs.Reclamation.{ReclamationSizes, Reclamation, Trails, row_of, tenure_of}
use Rattle.bus_presence.specs.Reclaimers.{Reclaiming, reclaim_op}
use Rattle.bus_presence.specs.Standing.{IsSafe, Stands}
use Rattle.bus_presence.specs.declared.pins.Pin.{Pin}
use Rattle.bus_presence.specs.declared.pins.Pin.TheVariants.{Away, Pinned}
use Rattle.bus_core.specs.Keeping.{reclaimer_in}
use Rattle.bus_core.specs.Senders.{Sender, Does, Scans, Clears, reclaiming, at_home, pinning}
use Rattle.bus_core.specs.Senders.{situation_by, situation}
use Rattle.bus_core.specs.Reusing.Passing.{passing_left}
use Rattle.bus_core.specs.declared.reuses.Passing.{Passing}
use Rattle.bus_core.specs.declared.reuses.Reuse.{Reuse}
use Rattle.bus_core.proofs.Situated.{passing_is}
use Rattle.bus_core.specs.Reusing.Keeping.{held_of}
use Rattle.bus_tenure.proofs.Situated.{tells}
use Rattle.bus_tenure.specs.Core.{Election}
use Rattle.bus_tenure.specs.Situations.{Situation as Own, GivesBack, situation_of as own_situation}
use Rattle.bus_tenure.specs.declared.pages.Page.{Page}
use Rattle.bus_tenure.specs.declared.phases.Reason.{Reason}

-- the next step of this reclamation clears a word
abbrev ClearsNext : Reclaiming → Type 0
ClearsNext s = reclaim_op s ≡ Some (Store record { 0 = s.row + s.cleared } 0)

-- the page is to be given back
record IsBack {E : Type 0} (z : Own E) : Type 0 where
  tenure : ℕ
  page : Page
  reason : Reason
  is : z ≡ GivesBack tenure page reason

-- which word a reclamation clears
op_clears : {E : Type 0} (s q : Reclaiming) (z : Own E) (a b : Bool)
    → nat_lt s.scanned s.senders ≡ a → nat_lt s.cleared s.width ≡ b
    → cond a (Scans s) (cond b (Clears s) (Does z)) ≡ Clears q → (s ≡ q) × ClearsNext s
op_clears s q z true b i j e = absurd cc
op_clears s q z false true i j e = grind (arith, common_steps, nat_lt)
op_clears s q z false false i j e = absurd cc

-- the same of a reclamation that there may be
reclaiming_clears : {E : Type 0} (o : Option Reclaiming) (q : Reclaiming) (z : Own E)
    → reclaiming o z ≡ Clears q → (o ≡ Some q)
    × ClearsNext q
reclaiming_clears None q z i = absurd cc
reclaiming_clears (Some s) q z i = grind (arith, common_steps, op_clears, nat_lt)

-- the same of who takes no step of a pin
home_clears : {E : Type 0} (l : Option Passing) (o : Option Reclaiming) (q : Reclaiming) (z : Own E)
    → at_home l o z ≡ Clears q → (o ≡ Some q) × ClearsNext q
    × IsBack z
home_clears l o q (GivesBack t page reason) i =
    grind (arith, common_steps, reclaiming_clears, passing_is)
home_clears l o q z i = absurd cc

-- the same with a pin
pin_clears : {E : Type 0} (u : Pin) (l : Option Passing) (o : Option Reclaiming) (q : Reclaiming)
    (z : Own E) → pinning u l o z ≡ Clears q → (o ≡ Some q)
    × ClearsNext q × IsBack z
pin_clears Away l o q z i = home_clears l o q z i
pin_clears (Pinned t) l o q z i = home_clears l o q z i
pin_clears u l o q z i = absurd cc

-- the same with both kinds of rows
reuse_clears : {E : Type 0} (n : ℕ) (r : Option Reuse) (q : Reclaiming) (z : Own E)
    → situation_by n r z ≡ Clears q → (reclaimer_in r ≡ Some q)
    × ClearsNext q × IsBack z
reuse_clears n None q z i = absurd cc
reuse_clears n (Some r) q z i = pin_clears r.pin (passing_left n r.passed) r.reclaimer q z i

-- the sender clears a word next, and holds a page
pub record IsClearing {E : Type 0} (v : Sender E) (s : Reclaiming) : Type 0 where
  pub reclaims : reclaimer_in v.reuse ≡ Some s
  pub step : reclaim_op s ≡ Some (Store record { 0 = s.row + s.cleared } 0)
  pub tenure : ℕ
  pub held : held_of v.core.phase ≡ Some tenure

-- its situation tells so
pub clearing : {E : Type 0} (X : Election E) (v : Sender E) (s : Reclaiming)
    → situation X v ≡ Clears s → IsClearing v s
clearing X v s i =
    let w = reuse_clears v.core.layout.passers v.reuse s (own_situation X v.core) i in
    grind (arith, common_steps, tells)

module _ (x : ReclamationSizes) (h : Reclamation) (T : Trails) (safe : IsSafe x h T)
    (s : Reclaiming) (is : h.reclaimer ≡ Some s)
    (step : ClearsNext s) where
  -- which word of which row it clears
  pub clears_at : (place : ℕ) × (s.row + s.cleared ≡ row_of x (tenure_of x h + 1) + place)
      × (place < x.width)
  clears_at = let c = safe.clears s (s.row + s.cleared) 0 is step in (c.0, c.1, c.2)

  -- and whoever stands in a tenure, stands in one of another row
  pub spared : (q t place : ℕ) → Stands x q (T q) t → place < x.width
      → s.row + s.cleared ≢ row_of x t + place
  spared q t place stands low same =
      let c = safe.clears s (s.row + s.cleared) 0 is step in
      rows_apart x t (tenure_of x h + 1) place c.0 (safe.reclaimed s is c.4 q t stands) low c.2
      (sym same ∙ c.1)
