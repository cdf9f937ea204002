-- What the frames of a log from one of them on say of the whole of it.
use Rattle.std.proofs.Common.{◌≡◌, ℕ, suc, ◌+◌, ◌≤◌, ◌||◌, Bool, true, false, List, [], ◌∷◌, ◌++◌}
use Rattle.std.proofs.Common.{length, map, drop, take, slice_get, filter, arith, refl, ◌∙◌, ap}
use Rattle.std.proofs.Math.Seq.{take-append_seam}
use Rattle.std.proofs.lemmas.Grind.{flat_map-append, common_steps}
use Rattle.std.proofs.lemmas.List.{length-append, length-map, map-append}
use Rattle.std.proofs.lemmas.List.Elements.{filter-append}
use Rattle.std.proofs.lemmas.List.Folds.{list_any-append}
use Rattle.bus_batch.specs.Frames.{Frame, AreFrames, Spells, order_of, has_gone, has_end, ends}
use Rattle.bus_batch.specs.Frames.{IsLog, log_words, tenure_and_owner}
use Rattle.bus_deliverylog.specs.Orders.{of_sender}
use Rattle.bus_world.proofs.Standing.{stands_as_log}
use Rattle.bus_world.specs.Floors.{IsBoundary}
use Rattle.bus_automaton.proofs.Walking.{front_lawful}

-- of two lists, one behind the other, the second
pub get_behind : {A : Type 0} (xs ys : List A) (k : ℕ)
    → slice_get (xs ++ ys) (length xs + k) ≡ slice_get ys k
get_behind [] ys k = ap (slice_get ys) (let e : 0 + k ≡ k = omega arith in e)
get_behind (x ∷ xs) ys k =
    ap (slice_get (x ∷ xs ++ ys))
    (let e : suc (length xs) + k ≡ suc (length xs + k) = omega arith in e)
    ∙ get_behind xs ys k

or_true : (a : Bool) → (a || true) ≡ true
or_true true = refl
or_true false = refl

-- ---- of frames and of more behind them
of_more : (s : ℕ) (fs more : List Frame)
    → of_sender s (order_of (fs ++ more)) ≡ of_sender s (order_of fs) ++ of_sender s (order_of more)
of_more s fs more = grind (arith, common_steps, filter, flat_map-append, filter-append)

gone_more : (s : ℕ) (fs more : List Frame)
    → has_gone s (order_of (fs ++ more)) ≡ (has_gone s (order_of fs) || has_gone s (order_of more))
gone_more s fs more = grind (arith, common_steps, flat_map-append, list_any-append)

end_more : (fs more : List Frame) → has_end more ≡ true → has_end (fs ++ more) ≡ true
end_more [] more e = e
end_more (f ∷ fs) more e =
    ap (λ b. ends f.body || b) (end_more fs more e) ∙ or_true (ends f.body)

-- ---- of frames from where one of them begins
module _ (n : ℕ) (frames : List Frame) (floor : ℕ) (b : IsBoundary frames floor) where
  pub floor_within : floor ≤ length (log_words frames)
  floor_within = grind (arith, common_steps, length, flat_map-append, length-append)

  -- those before it are a log
  pub first_log : (log : List ℕ) → log_words frames ≡ log → AreFrames n frames
      → IsLog n (take floor log)
  first_log log is lawful =
      grind (arith, common_steps, front_lawful, take-append_seam, take, flat_map-append)

  -- their words spell what they say
  pub last_spell : AreFrames n frames
      → Spells n (drop floor (log_words frames)) (order_of b.rest) (map tenure_and_owner b.rest)
  last_spell lawful = grind (arith, common_steps, map, drop, stands_as_log)

  -- how many items of a sender are before them
  abbrev pub before : ℕ → ℕ
  before s = length (of_sender s (order_of b.front))

  pub counted : (s : ℕ)
      → length (of_sender s (order_of frames)) ≡ before s + length (of_sender s (order_of b.rest))
  counted s = grind (arith, common_steps, length, of_more, length-append)

  pub item_behind : (s k : ℕ)
      → slice_get (of_sender s (order_of frames)) (before s + k)
      ≡ slice_get (of_sender s (order_of b.rest)) k
  item_behind s k = grind (arith, common_steps, slice_get, of_more, get_behind)

  -- who has left by them has left, and where they have ended the whole has
  pub has_left : (s : ℕ) → has_gone s (order_of b.rest) ≡ true
      → has_gone s (order_of frames) ≡ true
  has_left s e = grind (arith, common_steps, gone_more, or_true)

  pub has_ended : has_end b.rest ≡ true → has_end frames ≡ true
  has_ended e = ap has_end b.frames_are ∙ end_more b.front b.rest e

  -- and each is one of the whole
  pub owner_behind : (k : ℕ)
      → slice_get (map tenure_and_owner frames) (length b.front + k)
      ≡ slice_get (map tenure_and_owner b.rest) k
  owner_behind k =
      grind (arith, common_steps, slice_get, map, length, map-append, length-map, get_behind)
