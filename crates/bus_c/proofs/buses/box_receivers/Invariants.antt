use Rattle.std.proofs.Common.{◌≡◌, ◌++◌, map}
use Rattle.bus_c.specs.Opened.{boxed_receiver, hears}
use Rattle.bus_c.proofs.buses.box_receivers.Given as goal

abbrev pub invariant-loop-handle : goal.invariant-loop-handle
invariant-loop-handle l =
    map boxed_receiver l.boxes.items ++ map hears l.handle-iterator.rest.items
    ≡ map hears l.fn.receivers.items
