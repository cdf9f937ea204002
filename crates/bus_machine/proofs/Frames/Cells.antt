-- What is read of the cells of a log, from a place on.
use Rattle.std.proofs.Common.{◌≡◌, inl, inr, ℕ, zero, suc, ◌+◌, ◌%◌, ◌<◌, ◌≤◌, List, [], ◌∷◌, ◌++◌}
use Rattle.std.proofs.Common.{length, take, drop, slice_index, arith, refl, sym, ◌∙◌, ap}
use Rattle.std.proofs.lemmas.Bool.{cases_lt}
use Rattle.std.proofs.lemmas.Grind.{common_steps}
use Rattle.std.proofs.lemmas.List.{get_or-drop, get_or_append_left, length-append, length-drop}
use Rattle.std.proofs.lemmas.List.{take_more}
use Rattle.bus_world.specs.Log.{words_in_ring}

module _ (words : ℕ → ℕ) (at capacity place : ℕ) where
  -- so many as are asked for
  pub length-ring : (many : ℕ) → length (words_in_ring words at capacity place many) ≡ many
  length-ring zero = refl
  length-ring (suc k) =
      length-append (words_in_ring words at capacity place k)
      (words (at + (place + k) % capacity) ∷ [])
      ∙ (let before = length-ring k in omega arith)

  -- each from its cell
  pub index-ring : (many i : ℕ) → i < many
      → slice_index (words_in_ring words at capacity place many) i
      ≡ words (at + (place + i) % capacity)
  index-ring zero i l = absurd (omega arith)
  index-ring (suc k) i l = elim (cases_lt i k) [
    | inl below ↦
        get_or_append_left (words_in_ring words at capacity place k)
        (words (at + (place + k) % capacity) ∷ []) 0 i
        (let size = length-ring k in omega arith) ∙ index-ring k i below
    | inr past ↦ grind (arith, common_steps, length-ring, length, slice_index, last)
  ] where
    last : (xs : List ℕ) (w : ℕ) → slice_index (xs ++ w ∷ []) (length xs) ≡ w
    last xs w = grind (arith, common_steps)

-- where they have all that was published from a floor on, that is read
pub ring_read : (words : ℕ → ℕ) (at capacity floor : ℕ) (log : List ℕ)
    → ((place : ℕ) → floor ≤ place → place < length log
    → words (at + place % capacity) ≡ slice_index log place)
    → (place many : ℕ) → floor ≤ place → place + many ≤ length log
    → words_in_ring words at capacity place many ≡ take many (drop place log)
ring_read words at capacity floor log stands place zero past within = refl
ring_read words at capacity floor log stands place (suc k) past within =
    let size = length-drop place log in
    ap (λ ws. ws ++ words (at + (place + k) % capacity) ∷ [])
    (ring_read words at capacity floor log stands place k past (omega arith))
    ∙ ap (λ w. take k (drop place log) ++ w ∷ [])
    (stands (place + k) (omega arith) (omega arith) ∙ sym (get_or-drop place log k 0))
    ∙ sym (take_more (drop place log) k 0 (omega arith))
    ∙ ap (λ n. take n (drop place log)) (let e : k + 1 ≡ suc k = omega arith in e)
