use Rattle.bus_tenure.specs.Elections.{election_with}
use Rattle.bus_automaton.specs.Buses.{process_with}
use Rattle.bus_pageslot.proofs.Said.BehindShown.{behind_shown}
use Rattle.bus_pageslot.proofs.laws.behind_shows_its_load.Goals as goal

pub returns : goal.returns
unfolding process_with
returns g c old new word t p h =
    behind_shown
    (election_with g.Q.Machine.kind_of g.Q.Machine.op g.Q.Machine.fed g.Q.Ratifier.protocol) old new
    word t p h
