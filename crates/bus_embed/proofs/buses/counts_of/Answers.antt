use Rattle.std.proofs.Common.{◌∙◌, arith}
use Rattle.std.proofs.lemmas.List.{length-set}
use Rattle.bus_embed.specs.Ends.{CountsItems}
use Rattle.bus_embed.proofs.FillLaws.{one_place_more}
use Rattle.bus_embed.proofs.buses.counts_of.Goals as goal

pub loop-place-preserved : goal.loop-place-preserved
loop-place-preserved c =
    let long = c.loop-place.invariant.0 in
    let test = c.loop-place-test.true in
    let counts = c.loop-place.counts in
    let place = c.loop-place.place in (
      length-set counts place c.count.result ∙ long,
      one_place_more (λ s n. CountsItems c.args.ended.now s n) counts place c.count.result
          (omega (arith, long, test)) c.loop-place.invariant.1
          (record {
            sum = c.count.ensures.count;
            stand = c.count.ensures.stands;
            all = c.count.ensures.counts;
          }),
    )
