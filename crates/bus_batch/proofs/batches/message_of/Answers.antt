use Rattle.std.proofs.Common.{◌≡◌, ◌+◌, ◌-◌, ◌*◌, ◌++◌, min, take, arith, sym, ap, ◌∙◌}
use Rattle.std.specs.Int.{w64, to_be_bytes}
use Rattle.std.specs.List.{flat_map}
use Rattle.bus_batch.proofs.Spelling.{bytes_more}
use Rattle.bus_batch.proofs.batches.message_of.Goals as goal

pub loop-i-preserved : goal.loop-i-preserved
loop-i-preserved c =
    let i = c.loop-i.i in
    let own = c.min.result in
    let all = flat_map (to_be_bytes w64) c.args.words.now in
    let below = c.loop-i-test.true in
    let own_is : own ≡ min (c.args.len - 8 * i) 8 = c.min.ensures in
    c.append.ensures
    ∙ ap (λ z. z ++ take own c.to_be_bytes-bytes.result) c.loop-i.invariant
    ∙ ap (λ z. take z all ++ take own c.to_be_bytes-bytes.result)
    (let e : min c.args.len (8 * i) ≡ 8 * i = omega arith in e)
    ∙ ap (λ z. take (8 * i) all ++ take own z) c.to_be_bytes-bytes.ensures
    ∙ sym (bytes_more i own c.args.words.now (omega arith) (omega arith))
    ∙ ap (λ z. take z all) (let e : 8 * i + own ≡ min c.args.len (8 * (i + 1)) = omega arith in e)
