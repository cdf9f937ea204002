use Rattle.std.proofs.Common.{Some}
use Rattle.bus_pageslot.proofs.seats.Sender.turn_by.Given as goal

abbrev pub ghosts-walk : goal.ghosts-walk
ghosts-walk g a = record { core = Some a.core.now; word = a.word }
