use Rattle.std.proofs.Common.{rules, ◌<◌, length, take, drop, slice_set, ◌++◌, ap, ◌∙◌, arith}
use Rattle.std.proofs.lemmas.List.{length-set}
use Rattle.bus_embed.proofs.OverLaws.{over_next}
use Rattle.bus_embed.proofs.writing.write_over.Goals as goal

pub loop-place-preserved : goal.loop-place-preserved
loop-place-preserved g c =
    let inv = c.loop-place.invariant in
    let p = c.loop-place.place in
    let room : p < length c.args.old.now = search rules in
    let base = take p c.args.new.now ++ drop p c.args.old.now in (
      ap (λ l. slice_set l p c.index-new-place.result) inv.0
          ∙ ap (λ x. slice_set base p x) c.index-new-place.is
          ∙ over_next c.args.new.now c.args.old.now p c.index-new-place.result
          c.loop-place-test.true room,
      length-set c.loop-place.old p c.index-new-place.result ∙ inv.1,
      omega (arith, c.loop-place-test.true),
      omega (arith, room),
    )
