use Rattle.std.proofs.Common.{Some}
use Rattle.bus_pageslot.proofs.seats.Sender.store_on.Given as goal

abbrev pub ghosts-store_plain : goal.ghosts-store_plain
ghosts-store_plain g a = record { core = Some a.core.now; word = a.word }
