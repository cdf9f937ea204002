use Rattle.std.proofs.Common.{◌≡◌, ◌+◌, ◌++◌, map, take, length}
use Rattle.bus_c.specs.Opened.{heard_by, boxed_receiver}
use Rattle.bus_c.proofs.buses.fill_receivers.Given as goal

abbrev pub invariant-loop-place : goal.invariant-loop-place
invariant-loop-place l =
    (map heard_by (take l.place-iterator.count l.receivers)
    ++ map boxed_receiver l.place-iterator.iter.rest.items ≡ map boxed_receiver l.fn.seats.items)
    × (length l.receivers ≡ length l.fn.seats.items)
    × (l.place-iterator.count + length l.place-iterator.iter.rest.items ≡ length l.fn.seats.items)
