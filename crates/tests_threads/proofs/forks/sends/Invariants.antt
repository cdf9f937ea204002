use Rattle.std.proofs.Common.{◌≡◌}
use Rattle.bus_pageslot.specs.Seats.{table_of}
use Rattle.tests_threads.proofs.forks.sends.Given as goal

abbrev pub invariant-loop : goal.invariant-loop
invariant-loop g l = table_of l.sender ≡ l.bus.table
