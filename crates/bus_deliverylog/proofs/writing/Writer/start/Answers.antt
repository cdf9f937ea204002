use Rattle.std.proofs.Common.{◌≡◌, ◌+◌, ◌≤◌, suc, List, ℕ, length, take, [], ◌∷◌, ◌++◌, ap, ◌∙◌}
use Rattle.std.proofs.Common.{sym, arith}
use Rattle.std.proofs.lemmas.List.{take_all}
use Rattle.bus_batch.specs.Batches.{frame_of}
use Rattle.bus_batch.specs.Frames.{frame_words}
use Rattle.bus_deliverylog.specs.Writing.{Writing}
use Rattle.bus_deliverylog.proofs.WriteLaws.{take_next}
use Rattle.bus_deliverylog.proofs.writing.Writer.start.Goals as goal

pub loop-i-preserved : goal.loop-i-preserved
loop-i-preserved c =
    c.push.ensures.items ∙ ap (λ z. z ++ c.word.result ∷ []) c.loop-i.invariant
    ∙ sym (take_next (frame_words (frame_of c.args.batch.now c.args.tenure)) c.loop-i.i
    c.word.result c.word.ensures)
    ∙ ap (λ z. take z (frame_words (frame_of c.args.batch.now c.args.tenure)))
    (let e : suc c.loop-i.i ≡ c.loop-i.i + 1 = omega arith in e)

abbrev made : ℕ → ℕ → ℕ → List ℕ → Writing
made from log len frame = record {
  frame = frame;
  from = from;
  stored = 0;
  log_at = log;
  length_at = len;
}

pub returns : goal.returns
returns c =
    let size = c.frame_len-len.ensures.len c.args.tenure in
    let all : length (frame_words (frame_of c.args.batch.now c.args.tenure)) ≤ c.loop-i.i =
    omega arith in
    ap (λ (z : List ℕ). made c.args.from c.args.log.0 c.args.length.0 z)
    (c.loop-i.invariant
    ∙ take_all c.loop-i.i (frame_words (frame_of c.args.batch.now c.args.tenure)) all)
