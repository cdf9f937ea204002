-- One more receiver that was given all.
use Rattle.std.proofs.Common.{◌≡◌, ℕ, ◌+◌, ◌<◌, List, length, take, All, slice_index_or, subst}
use Rattle.std.proofs.lemmas.List.Elements.{All-more}

pub one_more_fair : {A : Type 0} (P : A → Type 0) (xs : List A) (i : ℕ) (x : A) → i < length xs
    → x ≡ slice_index_or xs i x → All P (take i xs) → P x → All P (take (i + 1) xs)
one_more_fair P xs i x within is all here = All-more P xs i x within all (subst P is here)
