-- Equal operations lead to equal states, where an operation has one outcome.
use Rattle.std.proofs.Common.{◌≡◌, List, [], ◌∷◌, ◌++◌, length, arith, refl, sym, ap}
use Rattle.std.proofs.lemmas.List.{length-append}
use Rattle.std.proofs.lemmas.Grind.{common_steps}
use Rattle.bus_batch.specs.declared.messages.Item.{Item}
use Rattle.bus_replica.specs.OneOrder.{AreFunctions}
use Rattle.bus_replica.specs.Replicas.{Operations, Folds, Begins, Then}

-- two lists that end with one element each are equal, and so are these
ends_same : {A : Type 0} (xs ys : List A) (x y : A) → xs ++ x ∷ [] ≡ ys ++ y ∷ []
    → (xs ≡ ys) × (x ≡ y)
ends_same [] [] x y e = let same : x ≡ y = cc in (refl, same)
ends_same [] (b ∷ ys) x y e =
    let l = ap length e in let k = length-append ys (y ∷ []) in absurd (omega arith)
ends_same (a ∷ xs) [] x y e =
    let l = ap length e in let k = length-append xs (x ∷ []) in absurd (omega arith)
ends_same (a ∷ xs) (b ∷ ys) x y e = grind (arith, common_steps)

-- no list that ends with an element is empty
pub not_empty : (items : List Item) (item : Item) → ◌≡◌ {A = List Item} [] (items ++ item ∷ []) → ⊥
not_empty items item e =
    let l = ap length e in let k = length-append items (item ∷ []) in omega arith

pub folds_same : {S A : Type 0} (IsFirst : S → Type 0) (Applies : Operations S A)
    → AreFunctions IsFirst Applies → (first first' : S) → first ≡ first'
    → (items items' : List Item) (s s' : S) → items ≡ items' → Folds Applies first items s
    → Folds Applies first' items' s' → s ≡ s'
folds_same IsFirst Applies F first first' same _ _ _ _ e Begins Begins = same
folds_same IsFirst Applies F first first' same _ _ _ _ e Begins
    (Then items old item answer new before applied) = absurd (not_empty items item e)
folds_same IsFirst Applies F first first' same _ _ _ _ e
    (Then items old item answer new before applied) Begins = absurd (not_empty items item (sym e))
folds_same IsFirst Applies F first first' same _ _ _ _ e
    (Then items old item answer new before applied)
    (Then items' old' item' answer' new' before' applied') =
    let parts = ends_same items items' item item' e in
    let olds = folds_same IsFirst Applies F first first' same items items' old old' parts.0 before
    before' in
    grind (arith, common_steps)
