-- What an election's sender is after a step of it that chose it.
use Rattle.std.proofs.Common.{◌≡◌, ℕ, ◌+◌, ◌==◌, false, true, cond, Some, is_some, sym, ◌∙◌, ap}
use Rattle.bus_tenure.specs.declared.phases.Phase.TheVariants.{Resting, Electing}
use Rattle.bus_tenure.specs.Core.{Core, Election}
use Rattle.bus_tenure.specs.Situations.{Elects, TakesPage, situation_of, situation_at}
use Rattle.bus_tenure.specs.Situations.{core_elected, fed_at}

module _ {E : Type 0} (X : Election E) (c s : Core E) (same : c ≡ s) (t : ℕ) (e : E)
    (at : c.phase ≡ Electing t e) (unowned : is_some (X.owner e) ≡ false) where
  -- its election runs
  here : situation_of X c ≡ Elects t e
  here = ap (situation_at X c) at ∙ ap (λ z. cond z (TakesPage t) (Elects t e)) unowned

  -- it goes on in its tenure
  pub own_state : (got word : ℕ) (e' : E) → e' ≡ X.fed e got word → (o : ℕ) → X.owner e' ≡ Some o
      → (o == c.me) ≡ true
      → record c { phase = Electing t e' } ≡ fed_at X s (situation_of X s) got word
  own_state got word e' went o owned own =
      ap (λ z. record c { phase = Electing t z }) went
      ∙ sym
      (ap (λ z. cond z (record c { phase = Electing t (X.fed e got word) })
      (record c { queue = record c.queue { busy = false }; least = t + 1; phase = Resting })) own)
      ∙ sym (ap (core_elected c t (X.fed e got word)) (ap X.owner (sym went) ∙ owned))
      ∙ sym (ap (λ z. fed_at X c z got word) here)
      ∙ ap (λ z. fed_at X z (situation_of X z) got word) same
