use Rattle.std.proofs.Common.{Some}
use Rattle.bus_pageslot.proofs.buses.Bus.has_room.Given as goal

abbrev pub ghosts-look : goal.ghosts-look
ghosts-look g a = record { plan = Some a.self.now.plan }
