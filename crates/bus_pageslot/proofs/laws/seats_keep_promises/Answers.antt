use Rattle.bus_automaton.specs.Buses.{process_with, automaton_with}
use Rattle.bus_pageslot.proofs.Said.Promising.{seats_promised}
use Rattle.bus_pageslot.proofs.laws.seats_keep_promises.Goals as goal

pub returns : goal.returns
returns g c plan s r =
    let P = process_with g.Q.Machine.kind_of g.Q.Machine.op g.Q.Machine.fed g.Q.Ratifier.protocol in
    let A =
    automaton_with g.Q.Machine.kind_of g.Q.Machine.op g.Q.Machine.fed g.Q.Ratifier.protocol plan in
    seats_promised P A (c.threads_may_go_by.ensures.automaton plan) s r
