-- A list that is filled from its first place on.
use Rattle.std.proofs.Common.{ℕ, ◌+◌, ◌<◌, inl, inr, List, length, slice_index, slice_set}
use Rattle.std.proofs.Common.{sym, subst, arith}
use Rattle.std.proofs.lemmas.Bool.{cases_eq}
use Rattle.std.proofs.lemmas.List.{get_or-set_same, get_or-set_other}

-- one place more has what it is to have
pub one_place_more : (Has : ℕ → ℕ → Type 0) (xs : List ℕ) (n x : ℕ) → n < length xs
    → ((s : ℕ) → s < n → Has s (slice_index xs s)) → Has n x
    → (s : ℕ) → s < n + 1 → Has s (slice_index (slice_set xs n x) s)
one_place_more Has xs n x inside before here s below = elim (cases_eq s n) [
  | inl is ↦
      subst (λ k. Has k (slice_index (slice_set xs n x) k)) (sym is)
      (subst (λ y. Has n y) (sym (get_or-set_same xs n x 0 inside)) here)
  | inr other ↦
      subst (λ y. Has s y) (sym (get_or-set_other xs n s x 0 other))
      (before s (omega (arith, below, other)))
]
