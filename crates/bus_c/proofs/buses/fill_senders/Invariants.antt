use Rattle.std.proofs.Common.{◌≡◌, ◌+◌, ◌++◌, map, take, length}
use Rattle.bus_c.specs.Opened.{held_by, boxed}
use Rattle.bus_c.proofs.buses.fill_senders.Given as goal

abbrev pub invariant-loop-place : goal.invariant-loop-place
invariant-loop-place l =
    (map held_by (take l.place-iterator.count l.senders)
    ++ map boxed l.place-iterator.iter.rest.items ≡ map boxed l.fn.seats.items)
    × (length l.senders ≡ length l.fn.seats.items)
    × (l.place-iterator.count + length l.place-iterator.iter.rest.items ≡ length l.fn.seats.items)
