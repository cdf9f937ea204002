-- The votes of all processes together, when those of one process change.
use Rattle.std.proofs.Common.{◌≡◌, ◌≢◌, ℕ, zero, suc, ◌+◌, ◌*◌, ◌<◌, ◌≤◌, inl, inr, map, arith}
use Rattle.std.proofs.Common.{refl, ◌∙◌, ap}
use Rattle.std.specs.Prelude.{sum_by}
use Rattle.std.specs.List.{range_with_len}
use Rattle.std.proofs.lemmas.Bool.{cases_eq}
use Rattle.std.proofs.lemmas.List.FromFn.{sum_by-map-range_with_len_more}
use Rattle.bus_walkcoin.specs.declared.tallies.Tally.{Tally}

-- so many of the first n tallies, by g
abbrev pub summed : (Tally → ℕ) → (ℕ → Tally) → ℕ → ℕ
summed g f n = sum_by g (map f (range_with_len 0 n))

summed_more : (g : Tally → ℕ) (f : ℕ → Tally) (k : ℕ) → summed g f (suc k) ≡ summed g f k + g (f k)
summed_more g f k =
    let e : suc k ≡ k + 1 = omega arith in
    ap (summed g f) e ∙ sum_by-map-range_with_len_more g f 0 k k (omega arith)

-- tallies that are the same make the same sum
pub summed_same : (g : Tally → ℕ) (f f' : ℕ → Tally) (n : ℕ) → ((q : ℕ) → q < n → f' q ≡ f q)
    → summed g f' n ≡ summed g f n
summed_same g f f' zero same = refl
summed_same g f f' (suc k) same =
    let below : summed g f' k ≡ summed g f k = summed_same g f f' k (λ q l. same q (omega arith)) in
    let last : g (f' k) ≡ g (f k) = ap g (same k (omega arith)) in
    let old = summed_more g f k in let new = summed_more g f' k in
    omega arith

-- the sum changes as the one tally does that is another
pub summed_beside : (g : Tally → ℕ) (f f' : ℕ → Tally) (p n : ℕ) → p < n
    → ((q : ℕ) → q ≢ p → f' q ≡ f q) → summed g f' n + g (f p) ≡ summed g f n + g (f' p)
summed_beside g f f' p zero below beside = absurd (omega arith)
summed_beside g f f' p (suc k) below beside =
    let old = summed_more g f k in let new = summed_more g f' k in
    elim (cases_eq k p) [
      | inl e ↦
          let rest : summed g f' k ≡ summed g f k =
          summed_same g f f' k (λ q l. beside q (λ same. absurd (omega arith))) in
          let was : g (f k) ≡ g (f p) = ap (λ z. g (f z)) e in
          let now : g (f' k) ≡ g (f' p) = ap (λ z. g (f' z)) e in
          omega arith
      | inr ne ↦
          let rest : summed g f' k + g (f p) ≡ summed g f k + g (f' p) =
          summed_beside g f f' p k (omega arith) beside in
          let last : g (f' k) ≡ g (f k) = ap g (beside k ne) in
          omega arith
    ]

-- where each is at most m, n are at most n times as many
pub summed_most : (g : Tally → ℕ) (f : ℕ → Tally) (m n : ℕ) → ((q : ℕ) → q < n → g (f q) ≤ m)
    → summed g f n ≤ n * m
summed_most g f m zero each = omega arith
summed_most g f m (suc k) each =
    let rest : summed g f k ≤ k * m = summed_most g f m k (λ q l. each q (omega arith)) in
    let last : g (f k) ≤ m = each k (omega arith) in
    let more = summed_more g f k in
    let size : suc k * m ≡ k * m + m = omega arith in
    omega arith
