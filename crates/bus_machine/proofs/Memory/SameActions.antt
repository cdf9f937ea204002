-- Who did the same in a tenure says the same of it.
use Rattle.std.proofs.Common.{◌≡◌, ℕ, zero, suc, ◌==◌, Bool, true, false, cond, eq-eqb, Some, List}
use Rattle.std.proofs.Common.{[], ◌∷◌, filter, slice_get, refl, sym, ◌∙◌, ap, arith}
use Rattle.std.proofs.lemmas.Grind.{common_steps}
use Rattle.bus_world.specs.Headline.{Action}
use Rattle.bus_machine.specs.Promise.{actions_in, is_in}
use Rattle.bus_machine.specs.Refusals.{SaysNoMore}

-- ---- what passes a test
module _ {A : Type 0} (p : A → Bool) where
  -- is among those that do
  stays_in : (xs : List A) (i : ℕ) (a : A) → slice_get xs i ≡ Some a → p a ≡ true
      → (j : ℕ) × (slice_get (filter p xs) j ≡ Some a)
  stays_in [] i a at passes = absurd cc
  stays_in (x ∷ xs) zero a at passes = grind (arith, common_steps, slice_get, filter)
  stays_in (x ∷ xs) (suc i) a at passes = by_test (p x) (stays_in xs i a at passes)
    where
      by_test : (b : Bool) → (j : ℕ) × (slice_get (filter p xs) j ≡ Some a)
          → (j : ℕ) × (slice_get (cond b (x ∷ filter p xs) (filter p xs)) j ≡ Some a)
      by_test true r = (suc r.0, r.1)
      by_test false r = r

  -- and these come from the whole list
  comes_from : (xs : List A) (j : ℕ) (a : A) → slice_get (filter p xs) j ≡ Some a
      → (i : ℕ) × (slice_get xs i ≡ Some a)
  comes_from [] j a at = absurd cc
  comes_from (x ∷ xs) j a at = by_test (p x) j at (λ k here. comes_from xs k a here)
    where
      by_test : (b : Bool) (j : ℕ) → slice_get (cond b (x ∷ filter p xs) (filter p xs)) j ≡ Some a
          → ((k : ℕ) → slice_get (filter p xs) k ≡ Some a → (i : ℕ) × (slice_get xs i ≡ Some a))
          → (i : ℕ) × (slice_get (x ∷ xs) i ≡ Some a)
      by_test true zero at rest = (0, at)
      by_test true (suc j) at rest = let r = rest j at in (suc r.0, r.1)
      by_test false j at rest = let r = rest j at in (suc r.0, r.1)

module _ (t : ℕ) (before after : List Action)
    (same : actions_in t after ≡ actions_in t before) where
  -- an action there was done before
  done_before : (i : ℕ) (d : Action) → slice_get after i ≡ Some d → is_in t d ≡ true
      → (j : ℕ) × (slice_get before j ≡ Some d)
  done_before i d at passes =
      let now = stays_in (is_in t) after i d at passes in
      comes_from (is_in t) before now.0 d (ap (λ ds. slice_get ds now.0) (sym same) ∙ now.1)

  itself : (t == t) ≡ true
  itself = eq-eqb t t refl

  pub says_no_more : SaysNoMore t before after
  says_no_more = grind (arith, common_steps, done_before, itself)
