use Rattle.std.proofs.Common.{arith}
use Rattle.std.proofs.lemmas.List.Sums.{sum_by_more}
use Rattle.bus_walkcoin.specs.declared.tallies.Tally.{Tally}
use Rattle.bus_walkcoin.proofs.tallies.total.Goals as goal

-- each side goes on with the count of the next tally
pub loop-tally-preserved : goal.loop-tally-preserved
loop-tally-preserved c =
    let none : Tally = record { heads = 0; tails = 0 } in (
      omega (
        arith,
        sum_by_more (λ t. t.heads) c.args.tallies.now c.loop-tally.tally-index none
            c.loop-tally-test.true,
      ),
      omega (
        arith,
        sum_by_more (λ t. t.tails) c.args.tallies.now c.loop-tally.tally-index none
            c.loop-tally-test.true,
      ),
      omega arith,
      omega arith,
    )
