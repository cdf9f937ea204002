use Rattle.std.proofs.Common.{length}
use Rattle.bus_adoptcommit.specs.Plays.{AtStarts}
use Rattle.bus_adoptcommit.proofs.objects.start_all.Given as goal

abbrev pub invariant-loop-i : goal.invariant-loop-i
invariant-loop-i g l =
    AtStarts g.Q.Ratifier.protocol (length l.inputs) l.i l.inputs l.processes.items
