-- The next step lies where its line says.
use Rattle.std.proofs.Common.{◌≡◌, ℕ, ◌+◌, ◌-◌, ◌*◌, ◌<◌, ◌≤◌, Option, Some, None, IfSome, refl}
use Rattle.std.proofs.Common.{sym, ap, subst, arith}
use Rattle.std.proofs.lemmas.Option.{IfSome_then}
use Rattle.bus_register.specs.Words.{register}
use Rattle.bus_register.specs.declared.registers.Op.{Op}
use Rattle.bus_register.specs.declared.registers.Op.TheVariants.{Load, Store, Add, Cas}
use Rattle.bus_presence.specs.Reclamation.{row_of}
use Rattle.bus_presence.specs.Reclaimers.{Reclaiming}
use Rattle.bus_tenure.specs.Core.{Core, Election, Layout, row_at}
use Rattle.bus_tenure.specs.Keeping.{SenderInvariant, PhaseKeeps, IsElecting}
use Rattle.bus_tenure.specs.Situations.{IsClosed, IsIdle, IsSpent, LooksAtStage, Elects, TakesPage}
use Rattle.bus_tenure.specs.Situations.{AwaitsPage, StoresWord, StoresLength, GivesBack, HasHanded}
use Rattle.bus_tenure.specs.Situations.{situation_of as own_situation}
use Rattle.bus_tenure.specs.declared.phases.Phase.TheVariants.{Electing}
use Rattle.bus_tenure.proofs.Situated.{tells}
use Rattle.bus_core.specs.Reusing.Participants.{sizes_with}
use Rattle.bus_core.specs.Keeping.{ReuseKeeps}
use Rattle.bus_core.specs.Places.{IsInRow, IsAsked, IsInNextRow, IsPassed, LiesAt}
use Rattle.bus_core.specs.Senders.{Sender, Situation, Does, Announces, Validates, Unpins}
use Rattle.bus_core.specs.Senders.{Withdraws, Scans, Clears, ReadsPassed, passed_start, situation}
use Rattle.bus_core.specs.Table.{line, line_now, in_row}
use Rattle.bus_core.specs.declared.limits.TheConstants.{PASSED_APART}
use Rattle.bus_core.specs.declared.reuses.Passing.{Passing}
use Rattle.bus_core.specs.declared.reuses.Reuse.{Reuse}
use Rattle.bus_core.proofs.Situated.{SituationTells, situation_tells, own_is, stands_in}
use Rattle.bus_core.proofs.Situated.{held_reclaimer}

-- ---- a step of an election, on the row that its tenure uses
placed : (x : Layout) (r : Reuse) (t at : ℕ) → row_at x t ≤ at → at < row_at x t + x.width
    → IsInRow x (Some r) t (row_of (sizes_with x r.rows) t + (at - row_at x t))
placed x r t at above below = record { place = at - row_at x t; below = omega arith; is = refl }

-- a step on a word of the row of a tenure, on the row that this tenure uses
in_row_lies : (x : Layout) (reuse : Option Reuse) (t : ℕ) (o : Option Op)
    → IfSome o (λ o. row_at x t ≤ register o)
    → IfSome o (λ o. register o < row_at x t + x.width)
    → IfSome (in_row x reuse t o) (λ o. IsInRow x reuse t (register o))
in_row_lies x None t None above below = tt
in_row_lies x None t (Some o) above below = record {
  place = register o - row_at x t;
  below = omega arith;
  is = omega arith;
}
in_row_lies x (Some r) t None above below = tt
in_row_lies x (Some r) t (Some (Load at)) above below = placed x r t at.0 above below
in_row_lies x (Some r) t (Some (Store at n)) above below = placed x r t at.0 above below
in_row_lies x (Some r) t (Some (Add at n)) above below = placed x r t at.0 above below
in_row_lies x (Some r) t (Some (Cas at n m)) above below = placed x r t at.0 above below

-- the tenure of an election that runs is one of those of the bus
pub electing_below : {E : Type 0} (width : ℕ) (Belongs : ℕ → E → Type 0) (c : Core E)
    → SenderInvariant width Belongs c → (t : ℕ) (e : E)
    → c.phase ≡ Electing t e → t < c.layout.rows
electing_below width Belongs c k t e at =
    let h : IsElecting Belongs c t e = subst (PhaseKeeps Belongs c) at k.phase in h.in_tenure.below

module _ {E : Type 0} (X : Election E) (width : ℕ) (Belongs : ℕ → E → Type 0) (v : Sender E)
    (k : ReuseKeeps width Belongs v.core v.reuse) where
  -- who asks loads the presence of a sender
  scans_lies : (s : Reclaiming) → situation X v ≡ Scans s
      → IsAsked v.core.layout s (s.presences + s.scanned)
  scans_lies s i = by v.reuse k (situation_tells X v (Scans s) i) where
    by : (r : Option Reuse) → ReuseKeeps width Belongs v.core r
        → SituationTells v.core.layout.passers (Scans s) r (own_situation X v.core)
        → IsAsked v.core.layout s (s.presences + s.scanned)
    by None h w = absurd w
    by (Some r) h w =
        let g = held_reclaimer width Belongs v.core r h s w.0.is in
        let many = g.after.senders in
        let from = g.after.presences in
        let left = w.1 in
        record { below = omega arith; is = omega arith }

  -- who clears stores into the next row
  clears_lies : (s : Reclaiming) → situation X v ≡ Clears s → IsInNextRow v (s.row + s.cleared)
  clears_lies s i = by v.reuse refl k (situation_tells X v (Clears s) i) where
    by : (r : Option Reuse) → v.reuse ≡ r → ReuseKeeps width Belongs v.core r
        → SituationTells v.core.layout.passers (Clears s) r (own_situation X v.core)
        → IsInNextRow v (s.row + s.cleared)
    by None e h w = absurd w
    by (Some r) e h w =
        let g = held_reclaimer width Belongs v.core r h s w.0.is in
        let wide = g.after.width in
        let left = w.1.left in
        let row : IsInRow v.core.layout (Some r) (g.tenure + 1) (s.row + s.cleared) =
        record {
          place = s.cleared;
          below = omega arith;
          is = ap (λ y. y + s.cleared) g.after.row;
        } in
        record {
          tenure = g.tenure;
          held = g.held;
          row = subst (λ y. IsInRow v.core.layout y (g.tenure + 1) (s.row + s.cleared)) (sym e) row;
        }

  -- who loads a passed place loads one of the bus
  passed_lies : (t : ℕ) (p : Passing) → situation X v ≡ ReadsPassed t p
      → IsPassed v.core.layout v.reuse p
      (passed_start v.core.layout v.reuse + PASSED_APART * p.loaded)
  passed_lies t p i = by v.reuse (situation_tells X v (ReadsPassed t p) i) where
    by : (r : Option Reuse)
        → SituationTells v.core.layout.passers (ReadsPassed t p) r (own_situation X v.core)
        → IsPassed v.core.layout r p (passed_start v.core.layout r + PASSED_APART * p.loaded)
    by None w = absurd w
    by (Some r) w = record { below = w.left; again = refl; is = refl }

  module _ (within : (t : ℕ) (e : E) → v.core.phase ≡ Electing t e → t < v.core.layout.rows)
      (near : (t : ℕ) (e : E) → v.core.phase ≡ Electing t e → (word : ℕ)
      → IfSome (X.op e word) (λ o. row_at v.core.layout t ≤ register o)
      × IfSome (X.op e word) (λ o. register o < row_at v.core.layout t + v.core.layout.width)) where
    -- each line lies where its situation has it
    by_line : (word : ℕ) (z : Situation E) → situation X v ≡ z
        → IfSome ((line X v z).op word) (λ o. LiesAt v z (register o))
    by_line word (Does IsClosed) i = tt
    by_line word (Does IsIdle) i = tt
    by_line word (Does IsSpent) i = tt
    by_line word (Does LooksAtStage) i = refl
    by_line word (Does (Elects t e)) i =
        let at = (tells X v.core (Elects t e) (own_is X v (Elects t e) i)).0 in
        let n = near t e at word in
        let stands = stands_in width Belongs v.core v.reuse k t e at in
        IfSome_then (in_row v.core.layout v.reuse t (X.op e word))
        (in_row_lies v.core.layout v.reuse t (X.op e word) n.0 n.1)
        (λ o lies. (within t e at, stands, lies))
    by_line word (Does (TakesPage t)) i =
        let at = tells X v.core (TakesPage t) (own_is X v (TakesPage t) i) in
        (within t at.0 at.1, stands_in width Belongs v.core v.reuse k t at.0 at.1, refl)
    by_line word (Does (AwaitsPage t)) i = tt
    by_line word (Does (StoresWord t page stored)) i = omega arith
    by_line word (Does (StoresLength t page stored)) i = refl
    by_line word (Does (GivesBack t page reason)) i = refl
    by_line word (Does (HasHanded t reason)) i = refl
    by_line word (Announces t) i = refl
    by_line word (Validates t) i = refl
    by_line word (Unpins t) i = refl
    by_line word (Withdraws t) i = refl
    by_line word (Scans s) i = scans_lies s i
    by_line word (Clears s) i = clears_lies s i
    by_line word (ReadsPassed t p) i = passed_lies t p i

    -- and so does the one that is due
    pub line_lies : (word : ℕ)
        → IfSome ((line_now X v).op word) (λ o. LiesAt v (situation X v) (register o))
    line_lies word = by_line word (situation X v) refl
