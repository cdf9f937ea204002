use Rattle.std.proofs.Common.{◌≡◌, ◌≤◌, slice_index}
use Rattle.bus_world.specs.Log.{least_passed}
use Rattle.bus_machine.proofs.logs.least_passed.Given as goal

abbrev pub invariant-loop-r : goal.invariant-loop-r
invariant-loop-r l =
    (l.r ≤ l.many)
    × (l.least ≡ least_passed (slice_index l.words) l.first l.r (slice_index l.words 0))
