-- What follows of tables, and of words that a list holds.
use Rattle.std.proofs.Common.{◌≡◌, ◌≢◌, ℕ, ◌<◌, List, [], ◌∷◌, ◌++◌, length, slice_get}
use Rattle.std.proofs.Common.{slice_index, slice_set, Option, Some, None, ◌⊎◌, inl, inr, arith}
use Rattle.std.proofs.Common.{refl, ◌∙◌, ap}
use Rattle.std.proofs.lemmas.Bool.Decides.{eqb_tells}
use Rattle.std.proofs.lemmas.Grind.{common_steps}
use Rattle.std.proofs.lemmas.List.{get_or-set_same, get_or-set_other}
use Rattle.std.proofs.lemmas.Option.{gets}
use Rattle.bus_register.specs.declared.registers.Op.{Op}
use Rattle.bus_register.specs.Tables.{of_some, Beside, put, Stepped}
use Rattle.bus_register.specs.Words.{register, after}

pub put_here : {A : Type 0} (p : ℕ) (x : A) (table : ℕ → A) → put p x table p ≡ x
unfolding put
put_here p x table = elim (eqb_tells p p) [ inl h ↦ rw h.0 | inr h ↦ absurd (h.1 refl) ]

pub put_beside : {A : Type 0} (p : ℕ) (x : A) (table : ℕ → A) → Beside p table (put p x table)
unfolding put
put_beside p x table q ne = elim (eqb_tells q p) [ inl h ↦ absurd (ne h.1) | inr h ↦ rw h.0 ]

-- where f gives a value of an option, the option has one
pub some_of : {A B : Type 0} (f : A → Option B) (o : Option A) (b : B) → of_some f o ≡ Some b
    → (s : A) × (o ≡ Some s) × (f s ≡ Some b)
some_of f None b e = absurd cc
some_of f (Some s) b e = (s, refl, e)

-- an option has a value or none
pub some_or_none : {A : Type 0} (o : Option A) → (o ≡ None) ⊎ ((x : A) × (o ≡ Some x))
some_or_none None = inl refl
some_or_none (Some x) = inr (x, refl)

-- a place within a list has an element
pub here_not : {A : Type 0} (xs : List A) (p : ℕ) → p < length xs → slice_get xs p ≡ None → ⊥
here_not xs p l e = grind (arith, common_steps, gets)

-- a list with one element more
pub push_here : {A : Type 0} (xs : List A) (x : A) (p : ℕ) → p ≡ length xs
    → slice_get (xs ++ x ∷ []) p ≡ Some x
push_here xs x p e = grind (arith, common_steps, gets)

pub push_beside : {A : Type 0} (xs : List A) (x : A) (p : ℕ) → p ≢ length xs
    → slice_get (xs ++ x ∷ []) p ≡ slice_get xs p
push_beside xs x p ne = grind (arith, common_steps, gets)

-- a list with another element at p
pub get_set_same : {A : Type 0} (xs : List A) (p : ℕ) (x : A) → p < length xs
    → slice_get (slice_set xs p x) p ≡ Some x
get_set_same xs p x h = grind (arith, common_steps, gets)

pub get_set_other : {A : Type 0} (xs : List A) (p : ℕ) (x : A)
    → Beside p (slice_get xs) (slice_get (slice_set xs p x))
get_set_other xs p x q ne = grind (arith, common_steps, gets)

-- a step on the words of a list
pub Stepped-list : (at width : ℕ) (o : Op) (ws ws' : List ℕ) (got : ℕ) → register o < length ws
    → got ≡ slice_index ws (register o) → ws' ≡ slice_set ws (register o) (after o got)
    → Stepped at width o (slice_index ws) (slice_index ws')
Stepped-list at width o ws ws' got h e e' = record {
  here =
      ap (λ z. slice_index z (register o)) e' ∙ get_or-set_same ws (register o) _ 0 h
      ∙ ap (after o) e;
  elsewhere = λ r a b ne. ap (λ z. slice_index z r) e' ∙ get_or-set_other ws (register o) r _ 0 ne;
}
