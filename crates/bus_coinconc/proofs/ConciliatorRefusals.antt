-- What is no conciliator.
use Rattle.std.proofs.Common.{◌≡◌, ◌≢◌, ℕ, ◌+◌, Bool, true, false, not, cond, ◌==◌, Some, None, []}
use Rattle.std.proofs.Common.{◌∷◌, inl, inr, refl, sym, ◌∙◌, ap, arith}
use Rattle.std.proofs.lemmas.Bool.Decides.{eqb_tells}
use Rattle.std.proofs.lemmas.Option.{cond_some, same_Some}
use Rattle.bus_register.specs.declared.registers.Op.{Op}
use Rattle.bus_register.specs.declared.registers.Op.TheVariants.{Load, Store, Add, Cas}
use Rattle.bus_register.specs.Digits.{digit}
use Rattle.bus_walkcoin.specs.CoinRule.{coin_answer}
use Rattle.bus_coinconc.specs.Conciliation.{Conciles}
use Rattle.bus_coinconc.specs.ConciliatorAnswer.{ConciliatorAnswer}
use Rattle.bus_coinconc.specs.ConciliatorRefused.{RefusesTrails, RefusesSteps, only}

same_number : (k : ℕ) → (k == k) ≡ true
same_number k = elim (eqb_tells k k) [ inl h ↦ h.0 | inr h ↦ absurd (h.1 refl) ]

not_zero : (k : ℕ) → k ≢ 0 → (k == 0) ≡ false
not_zero k h = elim (eqb_tells k 0) [ inl e ↦ absurd (h e.1) | inr e ↦ e.0 ]

differs : (v : Bool) → not v ≢ v
differs true e = cc
differs false e = cc

-- ---- outputs
has_own : (p : ℕ) (v : Bool) → only p v p ≡ Some v
has_own p v = ap (λ z. cond z (Some v) None) (same_number p)

pub other_value : (p : ℕ) (v : Bool) → ¬ Conciles (only p v) (only p (not v))
other_value p v c = differs v
    (c.unanimous v (λ q w h. sym (cond_some (q == p) v w h).1) p (not v) (has_own p (not v)))

pub disagrees : (p : ℕ) (v : Bool) → ¬ Conciles (λ _. Some v) (only p (not v))
disagrees p v c =
    differs v (c.unanimous v (λ q w h. sym (same_Some v w h)) p (not v) (has_own p (not v)))

pub unbrought : (p : ℕ) (v : Bool) → ¬ Conciles (λ _. None) (only p v)
unbrought p v c = let e = (c.valid p v (has_own p v)).1 in absurd cc

-- ---- steps that were taken
pub refuses_trails : RefusesTrails
refuses_trails = record {
  unmarked = λ n at input first trail s other.
      elim trail as (λ z. ¬ ConciliatorAnswer n at input (first ∷ z) s) [
        | [] ↦ λ a. other a.looks
        | second ∷ rest ↦ λ a. other a.looks.0
      ];
  unlooked = λ n at input first second trail s other a. other a.looks.1;
  too_early = λ n at input answer first s e a. let x = sym a.answer ∙ e in absurd cc;
  turned = λ n at input first second trail s none e a.
      differs input
      (sym (same_Some _ _
      (sym (ap (λ z. cond (z == 0) (Some input) (coin_answer n (at + 2) trail)) none) ∙ sym a.answer
      ∙ e)));
  silent = λ n at input first second trail s none e a.
      let x =
      sym (ap (λ z. cond (z == 0) (Some input) (coin_answer n (at + 2) trail)) none) ∙ sym a.answer
      ∙ e in
      absurd cc;
  unasked = λ n at input answer first second s some e a.
      let x =
      sym (ap (λ z. cond z (Some input) (coin_answer n (at + 2) [])) (not_zero second.got some))
      ∙ sym a.answer ∙ e in
      absurd cc;
  unheeded = λ n at input answer first second trail s some said e a.
      differs answer
      (sym (same_Some _ _ (sym said
      ∙ sym
      (ap (λ z. cond z (Some input) (coin_answer n (at + 2) trail)) (not_zero second.got some))
      ∙ sym a.answer ∙ e)));
}

-- ---- steps that are due
abbrev place_of : Op → ℕ
place_of (Load r) = r.0
place_of (Store r x) = r.0
place_of (Add r x) = r.0
place_of (Cas r x y) = r.0

other_mark : (at : ℕ) (v : Bool) → at + digit v ≡ at + digit (not v) → ⊥
other_mark at true e = absurd (omega (arith, e))
other_mark at false e = absurd (omega (arith, e))

pub refuses_steps : RefusesSteps
refuses_steps = record {
  looks_first = λ n at word input r e. absurd cc;
  votes_first = λ n at word x input r e. absurd cc;
  sets_other = λ n at word x input e. other_mark at input (ap place_of e);
  sets_twice = λ n at word x input first r e. absurd cc;
  votes_unlooked = λ n at word x input first r e. absurd cc;
  looks_at_own = λ n at word input first e. other_mark at input (sym (ap place_of e));
  looks_again = λ n at word input first second r e. absurd cc;
  misnames_the_mark = λ n at input e. absurd cc;
  misnames_the_look = λ n at input first e. absurd cc;
  misnames_the_vote = λ n at input first second e. absurd cc;
  reads_no_votes = λ n at input first second e. absurd cc;
}
