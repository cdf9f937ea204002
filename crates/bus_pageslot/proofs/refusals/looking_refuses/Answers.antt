use Rattle.bus_automaton.specs.Buses.{process_with, automaton_with}
use Rattle.bus_pageslot.proofs.Sends.Looking.{looking_refuses}
use Rattle.bus_pageslot.proofs.refusals.looking_refuses.Goals as goal

pub returns : goal.returns
returns g c plan v sender_trail notes many =
    let P = process_with g.Q.Machine.kind_of g.Q.Machine.op g.Q.Machine.fed g.Q.Ratifier.protocol in
    let A =
    automaton_with g.Q.Machine.kind_of g.Q.Machine.op g.Q.Machine.fed g.Q.Ratifier.protocol plan in
    looking_refuses P A v sender_trail notes many
