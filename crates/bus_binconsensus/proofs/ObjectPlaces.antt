-- In which object a process of a decision stands, by how many objects come after it.
use Rattle.std.specs.Prelude.{◌≡◌, ℕ, ◌==◌, ◌%◌, Bool, true, false, cond}
use Rattle.std.proofs.Common.{inl, inr, sym, ◌∙◌, ap}
use Rattle.std.proofs.lemmas.Bool.Decides.{eqb_tells}
use Rattle.bus_register.specs.Protocol.{Protocol}
use Rattle.bus_adoptcommit.specs.declared.verdicts.Verdict.{Verdict}
use Rattle.bus_binconsensus.specs.declared.fallbacks.Fallback.{Fallback}
use Rattle.bus_binconsensus.specs.declared.objects.Object.{Object}
use Rattle.bus_binconsensus.specs.declared.objects.Object.TheVariants.{Fall}
use Rattle.bus_binconsensus.specs.Objects.{Part, part_at, part_of, part_protocol, Decider}
use Rattle.bus_binconsensus.specs.Objects.{decide_protocol}
use Rattle.bus_binconsensus.specs.Objects.Part.{Ratifier, Conciliator, FallbackWord}

module _ {S T : Type 0} (P : Protocol S Bool Verdict) (C : Protocol T Bool Bool) where
  is_its_part : (part : Part) (n me at : ℕ) (x : Object S T)
      → (part_protocol P C part).Belongs n me at x → part_of x ≡ part
  is_its_part Ratifier n me at x b = ap part_of b.is
  is_its_part Conciliator n me at x b = ap part_of b.is
  is_its_part FallbackWord n me at x b = ap part_of b.is

  -- a process stands in the object of its number
  pub in_its_part : (rounds n me at : ℕ) (d : Decider S T)
      → (decide_protocol P C rounds).Belongs n me at d → part_of d.object ≡ part_at d.after
  in_its_part rounds n me at d b = is_its_part (part_at d.after) n me d.at d.object b.object

  zero_alone : (k : ℕ) → FallbackWord ≡ part_at k → k ≡ 0
  zero_alone k e = elim (eqb_tells k 0) [
    | inl h ↦ h.1
    | inr h ↦ absurd (
        let by : (b : Bool) → FallbackWord ≡ cond b Ratifier Conciliator → ⊥ = λ b.
        elim b as (λ z. FallbackWord ≡ cond z Ratifier Conciliator → ⊥) [
          | true ↦ λ f. absurd cc
          | false ↦ λ f. absurd cc
        ] in
        by (k % 2 == 1)
        (e ∙ ap (λ z. cond z FallbackWord (cond (k % 2 == 1) Ratifier Conciliator)) h.0))
  ]

  -- a process stands at the fallback word only past all other objects
  pub falls_last : (rounds n me at : ℕ) (d : Decider S T) (f : Fallback)
      → (decide_protocol P C rounds).Belongs n me at d → d.object ≡ Fall f → d.after ≡ 0
  falls_last rounds n me at d f b e =
      zero_alone d.after (sym (ap part_of e) ∙ in_its_part rounds n me at d b)
