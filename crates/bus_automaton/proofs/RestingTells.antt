-- A sender of which no step is due answers why, and not that it goes on.
use Rattle.std.proofs.Common.{◌≡◌, inl, ℕ, is_some, false, Option, Some, None, [], refl, sym, ◌∙◌}
use Rattle.std.proofs.Common.{ap, subst}
use Rattle.std.specs.Prelude.{IsSome}
use Rattle.std.proofs.lemmas.Bool.{true≢false}
use Rattle.bus_core.specs.Senders.{Sender}
use Rattle.bus_core.specs.Table.{line_now, rest_at}
use Rattle.bus_machine.proofs.Calls.TurnLaws.{idle_tells}
use Rattle.bus_core.specs.Telling.{RestTells}
use Rattle.bus_machine.specs.Telling.{StepTells}
use Rattle.bus_tenure.specs.declared.turns.Turn.TheVariants as turn
use Rattle.bus_ownerbits.specs.OneOwner.{OneOwner}
use Rattle.bus_register.specs.Protocol.{Protocol, Laws}
use Rattle.bus_register.specs.declared.registers.Op.{Op}
use Rattle.bus_tenure.proofs.Situated.{tells}
use Rattle.bus_tenure.specs.Core.{Election}
use Rattle.bus_tenure.specs.Seen.{AwaitsItsPage}
use Rattle.bus_tenure.specs.Situations.{Elects, situation_of}
use Rattle.bus_automaton.specs.OneProcess.{is_taken}

module _ {E : Type 0} (X : Election E) (P : Protocol E (Unit {0}) ℕ)
    (laws : Laws X.op X.fed P OneOwner)
    (owner_is : (e : E) → X.owner e ≡ P.output e) (v : Sender E) (word : ℕ) where
  -- an election that runs has a step
  goes : (t : ℕ) (e : E) → situation_of X v.core ≡ Elects t e → IsSome (X.op e word)
  goes t e i = by_step (X.op e word) refl where
    by_step : (o : Option Op) → X.op e word ≡ o → IsSome o
    by_step (Some o) is = refl
    by_step None is = absurd
        (true≢false (sym (laws.ends e word is).0 ∙ ap is_some (sym (owner_is e))
        ∙ (tells X v.core (Elects t e) i).1))

  pub rest_tells : is_taken v.core.phase ≡ false → (line_now X v).op word ≡ None
      → rest_at (line_now X v) ≡ turn.Going → ⊥
  rest_tells laid none going =
      let lies : AwaitsItsPage v.core.phase → ⊥ = λ w. true≢false (sym (ap is_taken w.is) ∙ laid) in
      subst (RestTells v) going (subst (λ o. StepTells X [] v o word (rest_at (line_now X v))) none
      (idle_tells X v word goes lies [] (rest_at (line_now X v)) none refl (inl going)))
