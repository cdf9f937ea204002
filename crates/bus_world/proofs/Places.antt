-- What stands at a place of a list: of none, of one element, and of one that another follows.
use Rattle.std.proofs.Common.{◌≡◌, ℕ, zero, suc, ◌+◌, Some, ◌⊎◌, inl, inr, List, [], ◌∷◌, ◌++◌}
use Rattle.std.proofs.Common.{length, slice_get, arith, refl, ◌∙◌, ap}
use Rattle.std.proofs.lemmas.Option.{same_Some}

pub none_in : {A : Type 0} (i : ℕ) (x : A) → slice_get [] i ≡ Some x → ⊥
none_in i x e = cc

pub only_one : {A : Type 0} (d : A) (i : ℕ) (x : A) → slice_get (d ∷ []) i ≡ Some x
    → (i ≡ 0) × (d ≡ x)
only_one d zero x e = (refl, same_Some _ _ e)
only_one d (suc i) x e = absurd (none_in i x e)

pub got_before : {A : Type 0} (xs ys : List A) (i : ℕ) (x : A) → slice_get xs i ≡ Some x
    → slice_get (xs ++ ys) i ≡ Some x
got_before [] ys i x e = absurd cc
got_before (y ∷ xs) ys zero x e = e
got_before (y ∷ xs) ys (suc i) x e = got_before xs ys i x e

pub got_after : {A : Type 0} (xs ys : List A) (i : ℕ) (x : A) → slice_get ys i ≡ Some x → (k : ℕ)
    → k ≡ length xs + i → slice_get (xs ++ ys) k ≡ Some x
got_after [] ys i x e k l = ap (slice_get ys) (omega arith) ∙ e
got_after (y ∷ xs) ys i x e zero l = absurd (omega arith)
got_after (y ∷ xs) ys i x e (suc k) l = got_after xs ys i x e k (omega arith)

pub got_split : {A : Type 0} (xs ys : List A) (i : ℕ) (x : A) → slice_get (xs ++ ys) i ≡ Some x
    → (slice_get xs i ≡ Some x) ⊎ ((j : ℕ) × (i ≡ length xs + j) × (slice_get ys j ≡ Some x))
got_split [] ys i x e = inr (i, omega arith, e)
got_split (y ∷ xs) ys zero x e = inl e
got_split (y ∷ xs) ys (suc i) x e = elim (got_split xs ys i x e) [
  | inl l ↦ inl l
  | inr r ↦ inr (r.0, (let z = r.1 in omega arith), r.2)
]
