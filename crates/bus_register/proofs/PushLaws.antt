-- A list with one element more.
use Rattle.std.proofs.Common.{◌≡◌, ℕ, Some, inl, inr, List, [], ◌∷◌, ◌++◌, length, slice_get}
use Rattle.std.proofs.Common.{arith, refl, sym, ◌∙◌, ap, subst}
use Rattle.std.proofs.lemmas.Bool.{cases_lt}
use Rattle.std.proofs.lemmas.List.{length-append}
use Rattle.std.proofs.lemmas.Option.{same_Some, slice_get_within}
use Rattle.bus_register.specs.Private.TableLaws.{push_here, push_beside}

-- what holds of each element holds of one more
pub each_more : {A : Type 0} (P : ℕ → A → Type 0) (xs : List A) (x : A)
    → ((p : ℕ) (y : A) → slice_get xs p ≡ Some y → P p y) → P (length xs) x → (p : ℕ) (y : A)
    → slice_get (xs ++ x ∷ []) p ≡ Some y → P p y
each_more P xs x each last p y e =
    let within = slice_get_within (xs ++ x ∷ []) p y e in let size = length-append xs (x ∷ []) in
    elim (cases_lt p (length xs)) [
      | inl l ↦ each p y (sym (push_beside xs x p (λ i. absurd (omega arith))) ∙ e)
      | inr l ↦
          let here : p ≡ length xs = omega arith in
          subst (λ z. P z y) (sym here) (subst (P (length xs))
          (same_Some _ _
          (sym (push_here xs x (length xs) refl) ∙ ap (slice_get (xs ++ x ∷ [])) (sym here) ∙ e))
          last)
    ]
