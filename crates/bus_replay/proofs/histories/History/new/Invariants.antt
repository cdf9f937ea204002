use Rattle.std.proofs.Common.{◌≡◌, map, nat_lt, false}
use Rattle.std.specs.List.{range_with_len}
use Rattle.bus_replay.proofs.histories.History.new.Given as goal

abbrev pub invariant-loop-seat : goal.invariant-loop-seat
invariant-loop-seat l =
    l.given.items
    ≡ map (λ seat. record { taken = nat_lt seat l.receivers; items = 0; ended = false })
    (range_with_len 0 l.seat)
