use Rattle.std.proofs.Common.{length}
use Rattle.bus_ratify.proofs.StepLemmas.{TakesSteps}
use Rattle.bus_ratify.proofs.scripts.push_steps.Given as goal

abbrev pub invariant-loop-word : goal.invariant-loop-word
invariant-loop-word l = TakesSteps l.processes l.initial.words l.words l.is_empty l.are_known
    l.fn.schedule.items l.schedule.items

abbrev pub decreases-loop-word : goal.decreases-loop-word
decreases-loop-word l = length l.words
