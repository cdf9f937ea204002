use Rattle.std.proofs.Common.{◌≡◌, Ok, length}
use Rattle.bus_ratify.specs.Scripts.{then_steps, schedule_of}
use Rattle.bus_ratify.proofs.scripts.schedule_of.Given as goal

abbrev pub invariant-loop-line : goal.invariant-loop-line
invariant-loop-line l =
    then_steps (Ok l.schedule.items) (schedule_of l.processes l.lines)
    ≡ schedule_of l.processes l.fn.lines

abbrev pub decreases-loop-line : goal.decreases-loop-line
decreases-loop-line l = length l.lines
