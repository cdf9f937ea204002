use Rattle.bus_automaton.specs.Buses.{process_with, automaton_with}
use Rattle.bus_pageslot.proofs.Said.Alike.{are_alike, alike_refuses}
use Rattle.bus_pageslot.proofs.laws.receivers_agree.Goals as goal

pub returns-clause-agree : goal.returns-clause-agree
returns-clause-agree g c plan s r =
    let P = process_with g.Q.Machine.kind_of g.Q.Machine.op g.Q.Machine.fed g.Q.Ratifier.protocol in
    let A =
    automaton_with g.Q.Machine.kind_of g.Q.Machine.op g.Q.Machine.fed g.Q.Ratifier.protocol plan in
    are_alike P A (c.threads_may_go_by.ensures.automaton plan) s r

pub returns-clause-refuses : goal.returns-clause-refuses
returns-clause-refuses g c x log s = alike_refuses x log s
