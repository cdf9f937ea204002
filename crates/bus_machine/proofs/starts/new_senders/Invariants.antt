use Rattle.std.proofs.Common.{◌≤◌}
use Rattle.bus_machine.specs.Playing.{layout_passed}
use Rattle.bus_machine.specs.Turning.{AreNewSenders}
use Rattle.bus_machine.proofs.starts.new_senders.Given as goal

abbrev pub invariant-loop-me : goal.invariant-loop-me
invariant-loop-me g l =
    (l.me ≤ l.shape.senders)
    × AreNewSenders (layout_passed g.Q.Ratifier.protocol l.shape l.reuse l.passers) l.reuse
    l.bases l.me
    l.senders.items
