use Rattle.bus_automaton.specs.Buses.{process_with, automaton_with}
use Rattle.bus_pageslot.specs.Turns.{tells_with}
use Rattle.bus_pageslot.proofs.Ruled.Keeping.{leaves_batch}
use Rattle.bus_pageslot.proofs.Sends.Room.{room_refuses}
use Rattle.bus_pageslot.proofs.refusals.room_refuses.Goals as goal

pub returns : goal.returns
unfolding tells_with
returns g c plan first new given f =
    let P = process_with g.Q.Machine.kind_of g.Q.Machine.op g.Q.Machine.fed g.Q.Ratifier.protocol in
    let T = tells_with g.Q.Machine.kind_of g.Q.Machine.op g.Q.Machine.fed g.Q.Ratifier.protocol in
    let A =
    automaton_with g.Q.Machine.kind_of g.Q.Machine.op g.Q.Machine.fed g.Q.Ratifier.protocol plan in
    room_refuses P A T (goal.F-step g) first new given f
    (leaves_batch g.Q.Machine.kind_of g.Q.Machine.op g.Q.Machine.fed g.Q.Ratifier.protocol)
