use Rattle.std.proofs.Common.{◌≤◌}
use Rattle.bus_world.specs.Starting.{AreNewReceivers}
use Rattle.bus_world.proofs.starts.new_receivers.Given as goal

abbrev pub invariant-loop-r : goal.invariant-loop-r
invariant-loop-r l =
    (l.r ≤ l.shape.receivers)
    × AreNewReceivers l.shape.senders l.log.0 l.shape.log_words l.first_passed l.r l.receivers.items
