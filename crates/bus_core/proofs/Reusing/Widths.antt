-- How many words a bus has whose rows are used again.
use Rattle.std.proofs.Common.{ℕ, ◌+◌, ◌*◌, ◌-◌, ◌^◌, ◌≤◌, ◌∷◌, [], nat_lt, arith}
use Rattle.std.proofs.Math.Nat.{mul-le-mul}
use Rattle.std.proofs.lemmas.List.Sums.{count_by-le-length}
use Rattle.bus_register.specs.declared.limits.TheConstants.{MOST_SENDERS}
use Rattle.bus_ownerbits.specs.Sizes.{bits_of}

pub few_words : (n rounds w : ℕ) → n ≤ MOST_SENDERS → rounds ≤ 8 → w ≤ 1024
    → n + bits_of n * (rounds * w + (rounds - 1) * 3 + 1) ≤ 2 ^ 16
few_words n rounds w few rounds_few narrow =
    let bits : bits_of n ≤ 6 =
    count_by-le-length {X = ℕ} (λ power. nat_lt power n) (1 ∷ 2 ∷ 4 ∷ 8 ∷ 16 ∷ 32 ∷ []) in
    let ratifiers : rounds * w ≤ 8 * 1024 = mul-le-mul rounds_few narrow in
    let decision : rounds * w + (rounds - 1) * 3 + 1 ≤ 8214 = omega arith in
    let decisions : bits_of n * (rounds * w + (rounds - 1) * 3 + 1) ≤ 6 * 8214 =
    mul-le-mul bits decision in
    omega arith
