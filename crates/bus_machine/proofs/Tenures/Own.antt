-- Where a sender goes on in its tenure or before it, its situation is the one that it has there.
use Rattle.std.proofs.Common.{◌≡◌, ℕ, Bool, true, false, cond, Option, Some, None, nat_lt, arith}
use Rattle.std.proofs.lemmas.Grind.{common_steps}
use Rattle.bus_core.specs.Senders.{Does, Scans, Clears, reclaiming, at_home, pinning}
use Rattle.bus_core.specs.Senders.{situation_by}
use Rattle.bus_core.proofs.Situated.{passing_is}
use Rattle.bus_core.specs.Reusing.Passing.{passing_left}
use Rattle.bus_core.specs.declared.reuses.Passing.{Passing}
use Rattle.bus_core.specs.declared.reuses.Reuse.{Reuse}
use Rattle.bus_presence.specs.Reclaimers.{Reclaiming}
use Rattle.bus_presence.specs.declared.pins.Pin.{Pin}
use Rattle.bus_presence.specs.declared.pins.Pin.TheVariants.{Away, Announcing, Validating, Pinned}
use Rattle.bus_presence.specs.declared.pins.Pin.TheVariants.{Unpinning, Invalidated}
use Rattle.bus_tenure.specs.Situations.{Situation as Own, IsClosed, IsIdle, IsSpent, LooksAtStage}
use Rattle.bus_tenure.specs.Situations.{Elects, TakesPage, AwaitsPage, StoresWord, StoresLength}
use Rattle.bus_tenure.specs.Situations.{GivesBack, HasHanded}

module _ {E : Type 0} where
  by_reclaimed : (s : Reclaiming) (w z : Own E) (a b : Bool)
      → cond a (Scans s) (cond b (Clears s) (Does w)) ≡ Does z → w ≡ z
  by_reclaimed s w z true b i = absurd cc
  by_reclaimed s w z false true i = absurd cc
  by_reclaimed s w z false false i = cc

  by_reclaimer : (s : Option Reclaiming) (w z : Own E) → reclaiming s w ≡ Does z → w ≡ z
  by_reclaimer None w z i = cc
  by_reclaimer (Some s) w z i =
      by_reclaimed s w z (nat_lt s.scanned s.senders) (nat_lt s.cleared s.width) i

  by_home : (l : Option Passing) (s : Option Reclaiming) (w z : Own E) → at_home l s w ≡ Does z
      → w ≡ z
  by_home l s (GivesBack t page reason) z i = grind (arith, common_steps, by_reclaimer, passing_is)
  by_home l s IsClosed z i = cc
  by_home l s IsIdle z i = cc
  by_home l s IsSpent z i = cc
  by_home l s LooksAtStage z i = cc
  by_home l s (Elects t e) z i = cc
  by_home l s (TakesPage t) z i = cc
  by_home l s (AwaitsPage t) z i = cc
  by_home l s (StoresWord t page stored) z i = cc
  by_home l s (StoresLength t page stored) z i = cc
  by_home l s (HasHanded t reason) z i = cc

  by_pin : (u : Pin) (l : Option Passing) (s : Option Reclaiming) (w z : Own E)
      → pinning u l s w ≡ Does z → w ≡ z
  by_pin Away l s w z i = by_home l s w z i
  by_pin (Announcing t) l s w z i = absurd cc
  by_pin (Validating t) l s w z i = absurd cc
  by_pin (Pinned t) l s w z i = by_home l s w z i
  by_pin (Unpinning t) l s w z i = absurd cc
  by_pin (Invalidated t) l s w z i = absurd cc

  pub own_of : (n : ℕ) (r : Option Reuse) (w z : Own E) → situation_by n r w ≡ Does z → w ≡ z
  own_of n None w z i = cc
  own_of n (Some r) w z i = by_pin r.pin (passing_left n r.passed) r.reclaimer w z i
