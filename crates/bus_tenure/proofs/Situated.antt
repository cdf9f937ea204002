-- What the situation of a sender tells of its phase.
use Rattle.std.proofs.Common.{◌≡◌, ℕ, Bool, true, false, cond, ◌&&◌, nat_lt, nat_le, is_some, refl}
use Rattle.std.proofs.Common.{subst}
use Rattle.bus_tenure.specs.Core.{Core, Election, frame_len, has_room, is_empty, is_marking}
use Rattle.bus_tenure.specs.Core.{is_closed}
use Rattle.bus_tenure.specs.Situations.{Situation, IsClosed, IsIdle, IsSpent, LooksAtStage, Elects}
use Rattle.bus_tenure.specs.Situations.{TakesPage, AwaitsPage, StoresWord, StoresLength, GivesBack}
use Rattle.bus_tenure.specs.Situations.{HasHanded, situation_at, situation_of}
use Rattle.bus_tenure.specs.declared.pages.Page.{Page}
use Rattle.bus_tenure.specs.declared.phases.Reason.TheVariants.{Sent, FoundEnd, NoRoom}
use Rattle.bus_tenure.specs.declared.phases.Phase.{Phase}
use Rattle.bus_tenure.specs.declared.phases.Phase.TheVariants.{Resting, Electing, Taken, Holding}
use Rattle.bus_tenure.specs.declared.phases.Phase.TheVariants.{Giving}

module _ {E : Type 0} (X : Election E) where
  abbrev pub Tells : Situation E → Phase E → Type 0
  Tells IsClosed ph = ph ≡ Resting
  Tells IsIdle ph = ph ≡ Resting
  Tells IsSpent ph = ph ≡ Resting
  Tells LooksAtStage ph = ph ≡ Resting
  Tells (Elects t e) ph = (ph ≡ Electing t e) × (is_some (X.owner e) ≡ false)
  Tells (TakesPage t) ph = (e : E) × (ph ≡ Electing t e) × (is_some (X.owner e) ≡ true)
  Tells (AwaitsPage t) ph = ph ≡ Taken t
  Tells (StoresWord t page stored) ph = (published : Bool) × (ph ≡ Holding t page stored published)
  Tells (StoresLength t page stored) ph =
      (published : Bool) × (ph ≡ Holding t page stored published)
  Tells (GivesBack t page reason) ph =
      (stored : ℕ) × (published : Bool) × (ph ≡ Holding t page stored published)
  Tells (HasHanded t reason) ph = ph ≡ Giving t reason

  by_rest : (a b d : Bool)
      → Tells (cond a IsClosed (cond b IsIdle (cond d IsSpent LooksAtStage))) Resting
  by_rest true b d = refl
  by_rest false true d = refl
  by_rest false false true = refl
  by_rest false false false = refl

  by_owner : (a : Bool) (t : ℕ) (e : E) → is_some (X.owner e) ≡ a
      → Tells (cond a (TakesPage t) (Elects t e)) (Electing t e)
  by_owner true t e i = (e, refl, i)
  by_owner false t e i = (refl, i)

  by_hold : (a b d f published : Bool) (t stored : ℕ) (page : Page)
      → Tells (cond a (GivesBack t page Sent) (cond b (GivesBack t page FoundEnd)
      (cond d (cond f (StoresWord t page stored) (StoresLength t page stored))
      (GivesBack t page NoRoom)))) (Holding t page stored published)
  by_hold true b d f published t stored page = (stored, published, refl)
  by_hold false true d f published t stored page = (stored, published, refl)
  by_hold false false true true published t stored page = (published, refl)
  by_hold false false true false published t stored page = (published, refl)
  by_hold false false false f published t stored page = (stored, published, refl)

  tells_at : (c : Core E) (ph : Phase E) → Tells (situation_at X c ph) ph
  tells_at c Resting = by_rest (is_closed c.queue.phase)
      (is_empty c.queue.messages && cond (is_marking c.queue.phase) false true)
      (nat_le c.layout.rows c.least)
  tells_at c (Electing t e) = by_owner (is_some (X.owner e)) t e refl
  tells_at c (Taken t) = refl
  tells_at c (Holding t page stored published) = by_hold published page.ended (has_room c page)
      (nat_lt stored (frame_len c)) published t stored page
  tells_at c (Giving t reason) = refl

  pub tells : (c : Core E) (z : Situation E) → situation_of X c ≡ z → Tells z c.phase
  tells c z i = subst (λ s. Tells s c.phase) i (tells_at c c.phase)
