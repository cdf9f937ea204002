-- Which objects the rounds have, and how many words and steps they have together.
use Rattle.std.proofs.Common.{◌≡◌, ◌≢◌, ℕ, zero, suc, ◌+◌, ◌*◌, ◌-◌, ◌%◌, Bool, true, false, cond}
use Rattle.std.proofs.Common.{◌==◌, inl, inr, arith, refl, ◌∙◌, ap}
use Rattle.std.proofs.lemmas.Bool.Decides.{eqb_tells}
use Rattle.bus_register.specs.Protocol.{Protocol}
use Rattle.bus_adoptcommit.specs.declared.verdicts.Verdict.{Verdict}
use Rattle.bus_binconsensus.specs.Chain.{span, steps_from}
use Rattle.bus_binconsensus.specs.Objects.{part_at, part_protocol, objects_of, decide_protocol}
use Rattle.bus_binconsensus.specs.Objects.Part.{Ratifier, Conciliator, FallbackWord}
use Rattle.bus_binconsensus.specs.DecideLaw.{Rounds}

odd_part : (k : ℕ) → k % 2 ≡ 1 → part_at k ≡ Ratifier
odd_part k e =
    let a : (k == 0) ≡ false = elim (eqb_tells k 0) [
      | inl h ↦ absurd (let z : k % 2 ≡ 0 = ap (λ x. x % 2) h.1 in omega arith)
      | inr h ↦ h.0
    ] in
    let b : (k % 2 == 1) ≡ true = elim (eqb_tells (k % 2) 1) [
      | inl h ↦ h.0
      | inr h ↦ absurd (h.1 e)
    ] in
    ap (λ z. cond z FallbackWord (cond (k % 2 == 1) Ratifier Conciliator)) a
    ∙ ap (λ z. cond z Ratifier Conciliator) b

even_part : (k : ℕ) → k ≢ 0 → k % 2 ≢ 1 → part_at k ≡ Conciliator
even_part k ne odd =
    let a : (k == 0) ≡ false = elim (eqb_tells k 0) [ inl h ↦ absurd (ne h.1) | inr h ↦ h.0 ] in
    let b : (k % 2 == 1) ≡ false = elim (eqb_tells (k % 2) 1) [
      | inl h ↦ absurd (odd h.1)
      | inr h ↦ h.0
    ] in
    ap (λ z. cond z FallbackWord (cond (k % 2 == 1) Ratifier Conciliator)) a
    ∙ ap (λ z. cond z Ratifier Conciliator) b

pub ratifier_at : (r : ℕ) → part_at (2 * r + 1) ≡ Ratifier
ratifier_at r = odd_part (2 * r + 1) (omega arith)

pub conciliator_at : (r : ℕ) → part_at (2 * r + 2) ≡ Conciliator
conciliator_at r = even_part (2 * r + 2) (omega arith) (omega arith)

pub the_rounds : Rounds
the_rounds = record {
  first = λ rounds h. odd_part (2 * rounds - 1) (omega arith);
  ratifiers = ratifier_at;
  conciliators = conciliator_at;
  last = refl;
}

module _ {S T : Type 0} (P : Protocol S Bool Verdict) (C : Protocol T Bool Bool) (n : ℕ) where
  span_more : (r : ℕ)
      → span (objects_of P C) n (2 * suc r + 1)
      ≡ P.width n + (C.width n + span (objects_of P C) n (2 * r + 1))
  span_more r =
      let e : 2 * suc r + 1 ≡ suc (suc (2 * r + 1)) = omega arith in
      let f : suc (suc (2 * r + 1)) ≡ 2 * (r + 1) + 1 = omega arith in
      let g : suc (2 * r + 1) ≡ 2 * r + 2 = omega arith in
      ap (span (objects_of P C) n) e
      ∙ ap (λ z.
      (part_protocol P C z).width n
      + ((part_protocol P C (part_at (suc (2 * r + 1)))).width n
      + span (objects_of P C) n (2 * r + 1))) (ap part_at f ∙ ratifier_at (r + 1))
      ∙ ap (λ z. P.width n + ((part_protocol P C z).width n + span (objects_of P C) n (2 * r + 1)))
      (ap part_at g ∙ conciliator_at r)

  span_odd : (r : ℕ) → span (objects_of P C) n (2 * r + 1) ≡ (r + 1) * P.width n + r * C.width n + 1
  span_odd zero = omega arith
  span_odd (suc r) = let a = span_more r in let b = span_odd r in omega arith

  steps_more : (r : ℕ)
      → steps_from (objects_of P C) n (2 * suc r + 1)
      ≡ P.steps n + (C.steps n + steps_from (objects_of P C) n (2 * r + 1))
  steps_more r =
      let e : 2 * suc r + 1 ≡ suc (suc (2 * r + 1)) = omega arith in
      let f : suc (suc (2 * r + 1)) ≡ 2 * (r + 1) + 1 = omega arith in
      let g : suc (2 * r + 1) ≡ 2 * r + 2 = omega arith in
      ap (steps_from (objects_of P C) n) e
      ∙ ap (λ z.
      (part_protocol P C z).steps n
      + ((part_protocol P C (part_at (suc (2 * r + 1)))).steps n
      + steps_from (objects_of P C) n (2 * r + 1))) (ap part_at f ∙ ratifier_at (r + 1))
      ∙ ap
      (λ z. P.steps n + ((part_protocol P C z).steps n + steps_from (objects_of P C) n (2 * r + 1)))
      (ap part_at g ∙ conciliator_at r)

  steps_odd : (r : ℕ)
      → steps_from (objects_of P C) n (2 * r + 1) ≡ (r + 1) * P.steps n + r * C.steps n + 1
  steps_odd zero = omega arith
  steps_odd (suc r) = let a = steps_more r in let b = steps_odd r in omega arith

  -- the words of R rounds
  pub width_of_rounds : (rounds : ℕ)
      → (decide_protocol P C rounds).width n ≡ rounds * P.width n + (rounds - 1) * C.width n + 1
  width_of_rounds zero =
      let e : (zero - 1) * C.width n ≡ 0 =
      ap (λ z. z * C.width n) (let f : zero - 1 ≡ 0 = omega arith in f)
      ∙ (let g : 0 * C.width n ≡ 0 = omega arith in g) in
      omega arith
  width_of_rounds (suc r) =
      let e : 2 * suc r - 1 ≡ 2 * r + 1 = omega arith in
      let f : suc r - 1 ≡ r = omega arith in
      let a = ap (span (objects_of P C) n) e in
      let b = span_odd r in
      let c : (suc r - 1) * C.width n ≡ r * C.width n = ap (λ z. z * C.width n) f in
      omega arith

  -- the steps of R rounds
  pub steps_of_rounds : (rounds : ℕ)
      → (decide_protocol P C rounds).steps n ≡ rounds * P.steps n + (rounds - 1) * C.steps n + 1
  steps_of_rounds zero =
      let e : (zero - 1) * C.steps n ≡ 0 =
      ap (λ z. z * C.steps n) (let f : zero - 1 ≡ 0 = omega arith in f)
      ∙ (let g : 0 * C.steps n ≡ 0 = omega arith in g) in
      omega arith
  steps_of_rounds (suc r) =
      let e : 2 * suc r - 1 ≡ 2 * r + 1 = omega arith in
      let f : suc r - 1 ≡ r = omega arith in
      let a = ap (steps_from (objects_of P C) n) e in
      let b = steps_odd r in
      let c : (suc r - 1) * C.steps n ≡ r * C.steps n = ap (λ z. z * C.steps n) f in
      omega arith
