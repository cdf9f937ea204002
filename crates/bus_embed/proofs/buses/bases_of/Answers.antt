use Rattle.std.proofs.Common.{◌≡◌, slice_index, ◌∙◌, arith}
use Rattle.std.proofs.lemmas.List.{length-set}
use Rattle.bus_embed.proofs.FillLaws.{one_place_more}
use Rattle.bus_embed.proofs.buses.bases_of.Goals as goal

pub loop-place-preserved : goal.loop-place-preserved
loop-place-preserved c =
    let long = c.loop-place.invariant.0 in
    let test = c.loop-place-test.true in
    let firsts = slice_index c.args.ended.now.bases in
    let bases = c.loop-place.bases in
    let place = c.loop-place.place in (
      length-set bases place c.base.result ∙ long,
      one_place_more (λ s n. n ≡ firsts s) bases place c.base.result (omega (arith, long, test))
          c.loop-place.invariant.1 c.base.ensures.base,
    )
