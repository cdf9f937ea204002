-- How many items a log can have: a frame has a head and so many messages at most, each of one word
-- or more. And how many words: it is of a tenure of its own, of which there are 2^40.
use Rattle.std.proofs.Common.{◌≡◌, ℕ, ◌+◌, ◌*◌, ◌^◌, ◌<◌, ◌≤◌, List, [], ◌∷◌, length, map, flat_map}
use Rattle.std.proofs.Common.{arith, sym, subst}
use Rattle.std.proofs.Math.Nat.{mul-le-mul_left}
use Rattle.std.proofs.lemmas.List.{length-append}
use Rattle.std.proofs.lemmas.List.Elements.{All-head, All-tail}
use Rattle.std.proofs.lemmas.Grind.{common_steps}
use Rattle.std.specs.Prelude.{All}
use Rattle.bus_register.specs.declared.limits.TheConstants.{TENURES}
use Rattle.bus_register.specs.declared.registers.SenderNo.{SenderNo}
use Rattle.bus_batch.specs.Messages.{Numbered}
use Rattle.bus_batch.specs.Frames.{Frame, Body, Messages, Marked, IsBody, AreFrames, AreFramesFrom}
use Rattle.bus_batch.specs.Frames.{order_of, items_in, items_of, body_items, item_of, log_words}
use Rattle.bus_batch.specs.Frames.{frame_words, body_words, message_words}
use Rattle.bus_batch.proofs.Heads.{body_most}
use Rattle.bus_batch.proofs.PieceLaws.{entries_are_items}

items_short : (owner : SenderNo) (ms : List Numbered)
    → length (map (item_of owner) ms) ≤ length (flat_map message_words ms)
items_short owner [] = omega arith
items_short owner (m ∷ ms) =
    let a = length-append (message_words m) (flat_map message_words ms) in
    let b = items_short owner ms in omega arith

items_many : (owner : SenderNo) (ms : List Numbered) → length (map (item_of owner) ms) ≡ length ms
items_many owner [] = omega arith
items_many owner (m ∷ ms) = let a = items_many owner ms in omega arith

body_few : (owner : SenderNo) (b : Body) → IsBody b
    → 65 * length (body_items owner b) ≤ 64 * (1 + length (body_words b))
body_few owner (Messages ms) is =
    let a = items_short owner ms in let b = items_many owner ms in let few = is.1 in omega arith
body_few owner (Marked m) is = omega arith

few_from : (senders least : ℕ) (frames : List Frame) → AreFramesFrom senders least frames
    → 65 * length (flat_map items_of frames) ≤ 64 * length (log_words frames)
few_from senders least [] lawful = omega arith
few_from senders least (f ∷ frames) lawful =
    let a = length-append (items_of f) (flat_map items_of frames) in
    let b = length-append (frame_words f) (log_words frames) in
    let d = body_few f.owner f.body lawful.0.body in
    let e = few_from senders (f.tenure + 1) frames lawful.3 in omega arith

pub items_few : (senders : ℕ) (frames : List Frame) → AreFrames senders frames
    → 65 * length (items_in (order_of frames).entries) ≤ 64 * length (log_words frames)
items_few senders frames lawful = subst (λ z. 65 * length z ≤ 64 * length (log_words frames))
    (sym (entries_are_items frames)) (few_from senders 0 frames lawful)

-- ---- by tenures
frames_few : (senders least : ℕ) (frames : List Frame) → least ≤ TENURES
    → AreFramesFrom senders least frames → least + length frames ≤ TENURES
frames_few senders least [] low lawful = omega arith
frames_few senders least (f ∷ frames) low lawful =
    let below = lawful.0.tenure in
    let above = lawful.1 in
    let more = frames_few senders (f.tenure + 1) frames (omega arith) lawful.3 in omega arith

items_from : (batch : ℕ) (frames : List Frame) → All (λ f. length (items_of f) ≤ batch) frames
    → length (flat_map items_of frames) ≤ batch * length frames
items_from batch [] few = omega arith
items_from batch (f ∷ frames) few =
    let a = length-append (items_of f) (flat_map items_of frames) in
    let b = All-head (λ g. length (items_of g) ≤ batch) f frames few in
    let e = items_from batch frames (All-tail (λ g. length (items_of g) ≤ batch) f frames few) in
    omega arith

words_from : (senders least : ℕ) (frames : List Frame) → AreFramesFrom senders least frames
    → length (log_words frames) ≤ 513 * length frames
words_from senders least [] lawful = omega arith
words_from senders least (f ∷ frames) lawful =
    let a = length-append (frame_words f) (log_words frames) in
    let b = body_most f.body lawful.0.body in
    let e = words_from senders (f.tenure + 1) frames lawful.3 in omega arith

pub items_low : (senders batch : ℕ) (frames : List Frame) → AreFrames senders frames
    → All (λ f. length (items_of f) ≤ batch) frames
    → length (items_in (order_of frames).entries) ≤ batch * 2 ^ 40
items_low senders batch frames lawful few =
    let many : length frames ≤ 2 ^ 40 =
    (let m = frames_few senders 0 frames (omega arith) lawful in omega arith) in
    let all = mul-le-mul_left batch many in
    let each = items_from batch frames few in
    subst (λ z. length z ≤ batch * 2 ^ 40) (sym (entries_are_items frames)) (omega arith)

pub words_low : (senders : ℕ) (frames : List Frame) → AreFrames senders frames
    → length (log_words frames) < 2 ^ 50
words_low senders frames lawful = grind (arith, common_steps, frames_few, words_from)
