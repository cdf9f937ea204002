use Rattle.bus_automaton.specs.Buses.{process_with, automaton_with}
use Rattle.bus_pageslot.proofs.Said.Rings.{rule_refuses}
use Rattle.bus_pageslot.proofs.refusals.rule_refuses.Goals as goal

pub returns : goal.returns
returns g c plan s some =
    let P = process_with g.Q.Machine.kind_of g.Q.Machine.op g.Q.Machine.fed g.Q.Ratifier.protocol in
    let A =
    automaton_with g.Q.Machine.kind_of g.Q.Machine.op g.Q.Machine.fed g.Q.Ratifier.protocol plan in
    rule_refuses P A (c.threads_may_go_by.ensures.automaton plan) s some
