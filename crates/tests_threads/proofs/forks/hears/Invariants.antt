use Rattle.std.proofs.Common.{◌≡◌}
use Rattle.tests_threads.proofs.forks.hears.Given as goal

abbrev pub invariant-loop-i : goal.invariant-loop-i
invariant-loop-i g l = l.tap.table_id ≡ l.bus.table
