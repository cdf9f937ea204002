use Rattle.std.proofs.Common.{Some}
use Rattle.bus_pageslot.proofs.taps.fork_seat.Given as goal

abbrev pub ghosts-fork : goal.ghosts-fork
ghosts-fork g a = record { plan = Some a.self.now.plan }
