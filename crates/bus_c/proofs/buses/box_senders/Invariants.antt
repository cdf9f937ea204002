use Rattle.std.proofs.Common.{◌≡◌, ◌++◌, map}
use Rattle.bus_c.specs.Opened.{boxed, holds}
use Rattle.bus_c.proofs.buses.box_senders.Given as goal

abbrev pub invariant-loop-handle : goal.invariant-loop-handle
invariant-loop-handle l =
    map boxed l.boxes.items ++ map holds l.handle-iterator.rest.items ≡ map holds l.fn.senders.items
