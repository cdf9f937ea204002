-- What stands of a log whose words are used again, from the least passed place on: it is the end of
-- all that was published, and can be read as a log of its own. Of one that does not wrap it is all.
use Rattle.std.proofs.Common.{◌≡◌, ℕ, zero, suc, ◌+◌, ◌-◌, ◌%◌, ◌<◌, ◌≤◌, List, [], ◌∷◌, ◌++◌}
use Rattle.std.proofs.Common.{length, map, take, drop, arith, refl, sym, ◌∙◌, ap}
use Rattle.std.proofs.Math.Nat.{mod-eq_of_lt}
use Rattle.std.proofs.Math.Seq.{take-length}
use Rattle.std.proofs.lemmas.List.{get_or-drop, length-drop, take_more}
use Rattle.std.proofs.lemmas.Grind.{common_steps}
use Rattle.bus_register.specs.declared.limits.TheConstants.{PLACES}
use Rattle.bus_batch.specs.Frames.{Frame, AreFrames, Spells, log_words, order_of, tenure_and_owner}
use Rattle.bus_core.specs.Reusing.Participants.{passed_from, log_from}
use Rattle.bus_tenure.specs.Core.{Layout}
use Rattle.bus_world.specs.Log.{words_read_from, words_in_ring, least_passed, floor_shown}
use Rattle.bus_world.specs.Floors.{IsBoundary, ShowsRing}
use Rattle.bus_world.proofs.FloorLaws.{boundary_first, boundary_last, lesser_is}
use Rattle.bus_world.proofs.Standing.{stands_as_log}

-- words of a ring that do not wrap are read straight
pub ring_straight : (words : ℕ → ℕ) (at capacity many : ℕ) → many ≤ capacity
    → words_in_ring words at capacity 0 many ≡ words_read_from words at many
ring_straight words at capacity zero few = refl
ring_straight words at capacity (suc k) few =
    let low : k < capacity = omega arith in
    ap (λ ws. ws ++ words (at + (0 + k) % capacity) ∷ [])
    (ring_straight words at capacity k (omega arith))
    ∙ ap (λ n. words_read_from words at k ++ words (at + n) ∷ [])
    (let e : 0 + k ≡ k = omega arith in ap (λ n. n % capacity) e ∙ mod-eq_of_lt low)

module _ (x : Layout) (rows : ℕ) (words : ℕ → ℕ) (frames : List Frame) (log : List ℕ) (floor : ℕ)
    (h : ShowsRing x rows words frames log floor) (words_are : log_words frames ≡ log)
    (few : length log < PLACES) where
  abbrev least : ℕ → ℕ
  least n = least_passed words (passed_from x rows) n (words 0)

  -- the least of some passed places and the length
  least_is : (n : ℕ) → n ≤ x.passers
      → (floor ≤ least n) × (least n ≤ length log) × IsBoundary frames (least n)
  least_is zero within = grind (arith, common_steps, length, boundary_last)
  least_is (suc n) within =
      let before = least_is n (omega arith) in
      grind (arith, common_steps, lesser_is)

  -- it is no less than the floor, and a frame begins there
  abbrev shown : ℕ
  shown = floor_shown words (passed_from x rows) x.passers (words 0)

  pub shown_is : (floor ≤ shown) × (shown ≤ length log) × IsBoundary frames shown
  shown_is = grind (arith, common_steps, length, zero, boundary_first, suc, least_is)

  -- from the floor on the cells have what was published
  ring_read : (place many : ℕ) → floor ≤ place → place + many ≤ length log
      → words_in_ring words (log_from x rows) x.capacity place many ≡ take many (drop place log)
  ring_read place zero past within = refl
  ring_read place (suc k) past within =
      let size = length-drop place log in
      ap (λ ws. ws ++ words (log_from x rows + (place + k) % x.capacity) ∷ [])
      (ring_read place k past (omega arith))
      ∙ ap (λ w. take k (drop place log) ++ w ∷ [])
      (h.stands (place + k) (omega arith) (omega arith) ∙ sym (get_or-drop place log k 0))
      ∙ sym (take_more (drop place log) k 0 (omega arith))
      ∙ ap (λ n. take n (drop place log)) (let e : k + 1 ≡ suc k = omega arith in e)

  pub ring_shows : words_in_ring words (log_from x rows) x.capacity shown (words 0 - shown)
      ≡ drop shown log
  ring_shows =
      grind (arith, common_steps, shown_is, ring_read, take, drop, length-drop, length, take-length)

  -- they spell what the frames say from there on
  pub ring_spells : (n : ℕ) → AreFrames n frames
      → Spells n (words_in_ring words (log_from x rows) x.capacity shown (words 0 - shown))
      (order_of shown_is.2.rest) (map tenure_and_owner shown_is.2.rest)
  ring_spells n lawful = grind (arith, shown_is, map, drop, ring_shows, stands_as_log)
