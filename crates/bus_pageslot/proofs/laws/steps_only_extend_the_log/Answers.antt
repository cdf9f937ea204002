use Rattle.bus_automaton.specs.Buses.{process_with, automaton_with}
use Rattle.bus_pageslot.proofs.SeatSteps.Extending.{extends, never_shorter, rule_after}
use Rattle.bus_pageslot.proofs.laws.steps_only_extend_the_log.Goals as goal

pub returns-clause-extends : goal.returns-clause-extends
returns-clause-extends g c plan s id m d word many o r at due =
    let P = process_with g.Q.Machine.kind_of g.Q.Machine.op g.Q.Machine.fed g.Q.Ratifier.protocol in
    let A =
    automaton_with g.Q.Machine.kind_of g.Q.Machine.op g.Q.Machine.fed g.Q.Ratifier.protocol plan in
    extends P A (c.threads_may_go_by.ensures.automaton plan) s r id m at d word many o due

pub returns-clause-refused : goal.returns-clause-refused
returns-clause-refused g c plan s id m d word many n r at less due =
    let P = process_with g.Q.Machine.kind_of g.Q.Machine.op g.Q.Machine.fed g.Q.Ratifier.protocol in
    let A =
    automaton_with g.Q.Machine.kind_of g.Q.Machine.op g.Q.Machine.fed g.Q.Ratifier.protocol plan in
    never_shorter P A (c.threads_may_go_by.ensures.automaton plan) s r id m at d word many n less
    due

pub returns-clause-rule : goal.returns-clause-rule
returns-clause-rule g c plan s id m d word many o r at due =
    let P = process_with g.Q.Machine.kind_of g.Q.Machine.op g.Q.Machine.fed g.Q.Ratifier.protocol in
    let A =
    automaton_with g.Q.Machine.kind_of g.Q.Machine.op g.Q.Machine.fed g.Q.Ratifier.protocol plan in
    rule_after P A (c.threads_may_go_by.ensures.automaton plan) s r id m at d word many
    c.threads_may_go_by.ensures.process o due
