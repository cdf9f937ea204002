-- The bytes of a message, in a place for 56 of which the others are zero.
use Rattle.std.proofs.Common.{◌≡◌, ℕ, ◌-◌, ◌≤◌, List, ◌++◌, length, take, drop, replicate}
use Rattle.std.proofs.Common.{arith, sym, ap, ◌∙◌}
use Rattle.std.proofs.lemmas.List.{length-take, take-append-drop}

pub padded_again : (len : ℕ) (bytes : List ℕ)
    → (len ≤ 56) × (length bytes ≡ 56) × (drop len bytes ≡ replicate (56 - len) 0)
    → (length (take len bytes) ≡ len)
    × (take len bytes ++ replicate (56 - length (take len bytes)) 0 ≡ bytes)
padded_again len bytes h =
    let size : length (take len bytes) ≡ len =
    length-take len bytes ∙ (let a = h.0 in let b = h.1 in omega arith) in (
      size,
      ap (λ n. take len bytes ++ replicate (56 - n) 0) size
          ∙ ap (λ z. take len bytes ++ z) (sym h.2) ∙ take-append-drop len bytes,
    )
