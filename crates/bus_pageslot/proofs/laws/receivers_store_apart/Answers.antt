use Rattle.bus_automaton.specs.Buses.{process_with, automaton_with}
use Rattle.bus_pageslot.proofs.Hears.PassSteps.{pass_leaves, leave_leaves}
use Rattle.bus_pageslot.proofs.Said.Rings.{stores_apart}
use Rattle.bus_pageslot.proofs.laws.receivers_store_apart.Goals as goal

pub returns-clause-apart : goal.returns-clause-apart
returns-clause-apart g c plan s seat v e number r at is some =
    let P = process_with g.Q.Machine.kind_of g.Q.Machine.op g.Q.Machine.fed g.Q.Ratifier.protocol in
    let A =
    automaton_with g.Q.Machine.kind_of g.Q.Machine.op g.Q.Machine.fed g.Q.Ratifier.protocol plan in
    stores_apart P A (c.threads_may_go_by.ensures.automaton plan) s r seat v e at is some number

pub returns-clause-passes : goal.returns-clause-passes
returns-clause-passes g c plan s seat x e r at stays some going log =
    let P = process_with g.Q.Machine.kind_of g.Q.Machine.op g.Q.Machine.fed g.Q.Ratifier.protocol in
    let A =
    automaton_with g.Q.Machine.kind_of g.Q.Machine.op g.Q.Machine.fed g.Q.Ratifier.protocol plan in
    pass_leaves P A (c.threads_may_go_by.ensures.automaton plan) s r seat x e at stays some going
    log

pub returns-clause-leaves : goal.returns-clause-leaves
returns-clause-leaves g c plan s seat x e r at stays some =
    let P = process_with g.Q.Machine.kind_of g.Q.Machine.op g.Q.Machine.fed g.Q.Ratifier.protocol in
    let A =
    automaton_with g.Q.Machine.kind_of g.Q.Machine.op g.Q.Machine.fed g.Q.Ratifier.protocol plan in
    leave_leaves P A (c.threads_may_go_by.ensures.automaton plan) s r seat x e at stays some
