-- What holds of each receiver's worker so far, and of one more, holds of all.
use Rattle.std.proofs.Common.{◌≡◌, ℕ, ◌+◌, ◌<◌, List, [], ◌∷◌, ◌++◌, length, take, get_or, All}
use Rattle.std.proofs.Common.{sym, ◌∙◌, ap, subst}
use Rattle.std.proofs.lemmas.List.{take_more}
use Rattle.std.proofs.lemmas.List.Elements.{All-append, All-nil, All-cons}

pub one_more : {A : Type 0} (P : A → Type 0) (xs : List A) (i : ℕ) (x : A) → i < length xs
    → x ≡ get_or xs i x → All P (take i xs) → P x → All P (take (i + 1) xs)
one_more P xs i x below is all p =
    subst (All P) (sym (take_more xs i x below ∙ ap (λ y. take i xs ++ y ∷ []) (sym is)))
    (All-append P (take i xs) (x ∷ []) all (All-cons P x [] p (All-nil P)))
