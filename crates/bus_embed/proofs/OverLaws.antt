-- A list written over the first places of another, item by item.
use Rattle.std.proofs.Common.{◌≡◌, ℕ, suc, ◌+◌, ◌<◌, ◌≤◌, List, [], ◌∷◌, ◌++◌, length, take, drop}
use Rattle.std.proofs.Common.{slice_set, slice_index_or, refl, sym, ap, ◌∙◌, append_assoc, arith}
use Rattle.std.proofs.Math.Seq.{drop-cons, take-suc}
use Rattle.std.proofs.lemmas.List.{take_all, drop_all, length-take-le}
use Rattle.bus_embed.specs.Answers.{over}

at_seam : {A : Type 0} (xs zs : List A) (y x : A)
    → slice_set (xs ++ y ∷ zs) (length xs) x ≡ xs ++ x ∷ zs
at_seam [] zs y x = refl
at_seam (w ∷ xs) zs y x = ap (λ l. w ∷ l) (at_seam xs zs y x)

pub one_more : (n : ℕ) → suc n ≡ n + 1
one_more n = omega arith

-- one more item
pub put_next : {A : Type 0} (xs ys : List A) (x : A) (m : ℕ) → m ≡ length xs → m < length ys
    → slice_set (xs ++ drop m ys) m x ≡ (xs ++ x ∷ []) ++ drop (suc m) ys
put_next xs ys x m m_is less =
    ap (λ l. slice_set (xs ++ l) m x) (drop-cons ys m x less)
    ∙ ap (λ k. slice_set (xs ++ slice_index_or ys m x ∷ drop (suc m) ys) k x) m_is
    ∙ at_seam xs (drop (suc m) ys) (slice_index_or ys m x) x
    ∙ sym (append_assoc xs (x ∷ []) (drop (suc m) ys))

-- one more item of a list
pub over_next : {A : Type 0} (xs ys : List A) (p : ℕ) (d : A) → p < length xs → p < length ys
    → slice_set (take p xs ++ drop p ys) p (slice_index_or xs p d)
    ≡ take (p + 1) xs ++ drop (p + 1) ys
over_next xs ys p d less room =
    put_next (take p xs) ys (slice_index_or xs p d) p
    (sym (length-take-le p xs (omega (arith, less)))) room
    ∙ ap (λ l. l ++ drop (suc p) ys) (sym (take-suc xs p d less))
    ∙ ap (λ k. take k xs ++ drop k ys) (one_more p)

-- all of it is written
pub over_all : {A : Type 0} (xs ys : List A) (p : ℕ) → p ≡ length xs → p ≤ length ys
    → take p xs ++ drop p ys ≡ over xs ys
over_all xs ys p is room =
    ap (λ l. l ++ drop p ys)
    (take_all p xs (omega (arith, is)) ∙ sym (take_all (length ys) xs (omega (arith, is, room))))
    ∙ ap (λ k. take (length ys) xs ++ drop k ys) is

-- there is no more room
pub over_full : {A : Type 0} (xs ys : List A) (p : ℕ) → p ≡ length ys → p ≤ length xs
    → take p xs ++ drop p ys ≡ over xs ys
over_full xs ys p is many =
    ap (λ k. take k xs ++ drop p ys) is
    ∙ ap (λ l. take (length ys) xs ++ l)
    (drop_all p ys (omega (arith, is)) ∙ sym (drop_all (length xs) ys (omega (arith, is, many))))
