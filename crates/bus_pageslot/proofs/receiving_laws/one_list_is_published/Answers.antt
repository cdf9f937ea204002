use Rattle.bus_automaton.specs.Buses.{process_with, automaton_with}
use Rattle.bus_pageslot.proofs.Ruled.OneList.{one_list}
use Rattle.bus_pageslot.proofs.receiving_laws.one_list_is_published.Goals as goal

pub returns : goal.returns
returns g c plan s r q seen =
    let P = process_with g.Q.Machine.kind_of g.Q.Machine.op g.Q.Machine.fed g.Q.Ratifier.protocol in
    let A =
    automaton_with g.Q.Machine.kind_of g.Q.Machine.op g.Q.Machine.fed g.Q.Ratifier.protocol plan in
    one_list P A (c.threads_may_go_by.ensures.automaton plan) s r q seen
