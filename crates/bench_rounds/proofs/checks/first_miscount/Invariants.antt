use Rattle.bench_rounds.specs.Checks.{HasEach}
use Rattle.bench_rounds.proofs.checks.first_miscount.Given as goal

abbrev pub invariant-loop-number : goal.invariant-loop-number
invariant-loop-number l = HasEach l.number l.load.messages l.heard
