-- What is read from the words of a bus, and what a new one is made of.
use Rattle.std.proofs.Common.{◌≡◌, ℕ, zero, suc, ◌+◌, ◌≤◌, List, [], ◌∷◌, ◌++◌, length, take, drop}
use Rattle.std.proofs.Common.{slice_index, arith, refl, sym, ◌∙◌, ap}
use Rattle.std.proofs.lemmas.List.{get_or-drop, take_more, length-take, length-drop}
use Rattle.std.proofs.lemmas.List.{take-append-drop, take-append-le, take_all}
use Rattle.std.proofs.lemmas.Grind.{common_steps}
use Rattle.bus_register.specs.declared.registers.SenderNo.{SenderNo}
use Rattle.bus_batch.specs.Frames.{Frame, AreFrames, Order, log_words, log_pieces, order_in}
use Rattle.bus_deliverylog.specs.Logs.{HasGiven}
use Rattle.bus_world.specs.Log.{words_read_from}

-- words of a list, from a place on
pub read-list : (words : List ℕ) (at k : ℕ) → at + k ≤ length words
    → words_read_from (slice_index words) at k ≡ take k (drop at words)
read-list words at zero l = refl
read-list words at (suc k) l =
    let size = length-drop at words in
    ap (λ z. z ++ slice_index words (at + k) ∷ []) (read-list words at k (omega arith))
    ∙ ap (λ z. take k (drop at words) ++ z ∷ []) (sym (get_or-drop at words k 0))
    ∙ sym (take_more (drop at words) k 0 (omega arith))
    ∙ ap (λ j. take j (drop at words)) (let one : k + 1 ≡ suc k = omega arith in one)

-- the first words of frames give their first pieces
pub front_given :
    (n k : ℕ) (frames : List Frame) (words : List ℕ) (order : Order) (owners : List (ℕ × SenderNo))
    → AreFrames n frames → words ≡ log_words frames → k ≤ length words
    → HasGiven n (take k words) order owners → order ≡ order_in (take k (log_pieces frames))
front_given n k frames words order owners lawful e l h =
    let whole : log_words frames ≡ take k words ++ drop k words =
    sym e ∙ sym (take-append-drop k words) in
    grind (arith, common_steps, drop, length, length-take, take, take-append-le, take_all)
