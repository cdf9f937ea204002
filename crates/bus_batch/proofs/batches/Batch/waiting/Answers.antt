use Rattle.std.proofs.Common.{◌≡◌, ◌+◌, ◌-◌, ◌*◌, ◌/◌, ◌^◌, ◌≤◌, [], ◌∷◌, ◌++◌, length, get_or}
use Rattle.std.proofs.Common.{take, drop, arith, sym, ap, ◌∙◌}
use Rattle.std.specs.Int.{w64, to_be_bytes}
use Rattle.std.specs.List.{flat_map}
use Rattle.std.proofs.lemmas.List.{length-take, length-drop, take_all, take_more}
use Rattle.bus_batch.specs.Frames.{data_len}
use Rattle.bus_batch.specs.Batches.{len_told}
use Rattle.bus_batch.proofs.Spelling.{begins, told}
use Rattle.bus_batch.proofs.batches.Batch.waiting.Goals as goal

pub bounds-words-0 : goal.bounds-words-0
bounds-words-0 c =
    let words = c.loop-i.words.now in
    let m = get_or c.args.self.now.messages c.loop-i.i [] in
    let below = c.loop-i-test.true in
    let front = begins _ c.args.self.now c.self.inside.count c.loop-i.i words c.self.view_is
    c.self.invariant.0 c.self.invariant.2 (omega arith) c.loop-i.invariant.rest in
    let size = front.size in
    omega arith

pub overflow_sub-len : goal.overflow_sub-len
overflow_sub-len c =
    let words = c.loop-i.words.now in
    let m = get_or c.args.self.now.messages c.loop-i.i [] in
    let below = c.loop-i-test.true in
    let front = begins _ c.args.self.now c.self.inside.count c.loop-i.i words c.self.view_is
    c.self.invariant.0 c.self.invariant.2 (omega arith) c.loop-i.invariant.rest in
    let first = front.first in
    let most : 2 ^ 63 ≤ get_or words 0 0 = omega arith in
    most

pub slice_bounds-message_of-count : goal.slice_bounds-message_of-count
slice_bounds-message_of-count c =
    let words = c.loop-i.words.now in
    let m = get_or c.args.self.now.messages c.loop-i.i [] in
    let below = c.loop-i-test.true in
    let front = begins _ c.args.self.now c.self.inside.count c.loop-i.i words c.self.view_is
    c.self.invariant.0 c.self.invariant.2 (omega arith) c.loop-i.invariant.rest in
    let size = front.size in
    omega arith

pub slice_bounds-message_of-start : goal.slice_bounds-message_of-start
slice_bounds-message_of-start c =
    let words = c.loop-i.words.now in
    let m = get_or c.args.self.now.messages c.loop-i.i [] in
    let below = c.loop-i-test.true in
    let front = begins _ c.args.self.now c.self.inside.count c.loop-i.i words c.self.view_is
    c.self.invariant.0 c.self.invariant.2 (omega arith) c.loop-i.invariant.rest in
    let size = front.size in
    let within : 1 ≤ length words = omega arith in
    within

pub message_of-requires-clause-short : goal.message_of-requires-clause-short
message_of-requires-clause-short c =
    let words = c.loop-i.words.now in
    let m = get_or c.args.self.now.messages c.loop-i.i [] in
    let below = c.loop-i-test.true in
    let front = begins _ c.args.self.now c.self.inside.count c.loop-i.i words c.self.view_is
    c.self.invariant.0 c.self.invariant.2 (omega arith) c.loop-i.invariant.rest in
    let len : len_told (get_or words 0 0) ≡ length m =
    ap len_told front.first ∙ told (length m) (c.args.self.now.first + c.loop-i.i) front.below in
    let short = front.short in
    omega arith

pub message_of-requires-clause-within : goal.message_of-requires-clause-within
message_of-requires-clause-within c =
    let words = c.loop-i.words.now in
    let m = get_or c.args.self.now.messages c.loop-i.i [] in
    let below = c.loop-i-test.true in
    let front = begins _ c.args.self.now c.self.inside.count c.loop-i.i words c.self.view_is
    c.self.invariant.0 c.self.invariant.2 (omega arith) c.loop-i.invariant.rest in
    let size = front.size in
    let len : len_told (get_or words 0 0) ≡ length m =
    ap len_told front.first ∙ told (length m) (c.args.self.now.first + c.loop-i.i) front.below in
    let left = length-drop 1 words in
    let part = length-take (length words - 1) (drop 1 words) in
    let within : len_told (get_or words 0 0) ≤ 8 * length (take (length words - 1) (drop 1 words)) =
    omega arith in
    within

pub slice_bounds-words-count : goal.slice_bounds-words-count
slice_bounds-words-count c =
    let words = c.loop-i.words.now in
    let m = get_or c.args.self.now.messages c.loop-i.i [] in
    let below = c.loop-i-test.true in
    let front = begins _ c.args.self.now c.self.inside.count c.loop-i.i words c.self.view_is
    c.self.invariant.0 c.self.invariant.2 (omega arith) c.loop-i.invariant.rest in
    let size = front.size in
    let len : len_told (get_or words 0 0) ≡ length m =
    ap len_told front.first ∙ told (length m) (c.args.self.now.first + c.loop-i.i) front.below in
    omega arith

pub slice_bounds-words-start : goal.slice_bounds-words-start
slice_bounds-words-start c =
    let words = c.loop-i.words.now in
    let m = get_or c.args.self.now.messages c.loop-i.i [] in
    let below = c.loop-i-test.true in
    let front = begins _ c.args.self.now c.self.inside.count c.loop-i.i words c.self.view_is
    c.self.invariant.0 c.self.invariant.2 (omega arith) c.loop-i.invariant.rest in
    let size = front.size in
    let len : len_told (get_or words 0 0) ≡ length m =
    ap len_told front.first ∙ told (length m) (c.args.self.now.first + c.loop-i.i) front.below in
    let within : 1 + (len_told (get_or words 0 0) + 7) / 8 ≤ length words = omega arith in
    within

pub loop-i-preserved : goal.loop-i-preserved
loop-i-preserved c =
    let i = c.loop-i.i in
    let ms = c.args.self.now.messages in
    let words = c.loop-i.words.now in
    let m = get_or c.args.self.now.messages c.loop-i.i [] in
    let below = c.loop-i-test.true in
    let front = begins _ c.args.self.now c.self.inside.count c.loop-i.i words c.self.view_is
    c.self.invariant.0 c.self.invariant.2 (omega arith) c.loop-i.invariant.rest in
    let size = front.size in
    let len : len_told (get_or words 0 0) ≡ length m =
    ap len_told front.first ∙ told (length m) (c.args.self.now.first + c.loop-i.i) front.below in
    let same = ap (λ s. length s.messages) c.self.view_is in
    let many = c.self.invariant.2 in
    let left = length-drop 1 words in
    let got : c.message_of.result
    ≡ take (len_told (get_or words 0 0))
    (flat_map (to_be_bytes w64) (take (length words - 1) (drop 1 words))) =
    c.message_of.ensures in
    let message : c.message_of.result ≡ m =
    got
    ∙ ap (λ z. take z (flat_map (to_be_bytes w64) (take (length words - 1) (drop 1 words)))) len
    ∙ ap (λ z. take (length m) (flat_map (to_be_bytes w64) z))
    (take_all (length words - 1) (drop 1 words) (omega arith))
    ∙ front.bytes in
    let past = length-drop (1 + data_len (length m)) words in
    record {
      own = c.push.ensures.items ∙ ap (λ z. z ++ c.message_of.result ∷ []) c.loop-i.invariant.own
          ∙ ap (λ z. take i ms ++ z ∷ []) message ∙ sym (take_more ms i [] (omega arith));
      rest = ap (λ z. take (length words - (1 + data_len z)) (drop (1 + data_len z) words)) len
          ∙ take_all (length words - (1 + data_len (length m)))
          (drop (1 + data_len (length m)) words) (omega arith)
          ∙ front.behind;
    }
