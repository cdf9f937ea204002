use Rattle.std.proofs.Common.{◌≡◌, length, slice_get, slice_index, take}
use Rattle.bus_adoptcommit.specs.Plays.{Plays, at_starts, moment}
use Rattle.bus_adoptcommit.proofs.Schedules.{Playing}
use Rattle.bus_adoptcommit.proofs.objects.verdicts.Given as goal

abbrev pub invariant-loop-p : goal.invariant-loop-p
invariant-loop-p g l =
    let P = g.Q.Ratifier.protocol in
    (length l.cells ≡ P.width (length l.inputs))
    × P.Keeps (length l.inputs) 0 (slice_index l.cells) (slice_get l.processes.items)
    × Playing g.Q.Machine.op g.Q.Machine.fed P (length l.inputs) l.inputs l.schedule l.p-index
    l.processes.items
    × Plays g.Q.Machine.op g.Q.Machine.fed (at_starts P l.inputs) (take l.p-index l.schedule)
    (moment l.cells l.processes.items)
