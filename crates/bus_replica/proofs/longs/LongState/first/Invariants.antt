use Rattle.std.proofs.Common.{◌≡◌, replicate}
use Rattle.bus_long.specs.Pieces.{nothing}
use Rattle.bus_replica.proofs.longs.LongState.first.Given as goal

abbrev pub invariant-loop : goal.invariant-loop
invariant-loop g l = l.joiners.items ≡ replicate l.counter nothing
