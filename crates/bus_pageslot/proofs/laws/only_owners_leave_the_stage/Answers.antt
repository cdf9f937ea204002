use Rattle.bus_machine.proofs.Bases.Served.{served}
use Rattle.bus_machine.specs.Telling.{OpensOnly}
use Rattle.bus_tenure.specs.Elections.{elections}
use Rattle.bus_automaton.specs.Buses.{process_with, plan_passers}
use Rattle.bus_pageslot.proofs.Said.Histories.{elector, sizes, rule_is, laws_are, sized}
use Rattle.bus_pageslot.proofs.SeatSteps.Staging.{owners_leave}
use Rattle.bus_pageslot.proofs.SeatSteps.Stepping.{OfEvents}
use Rattle.bus_pageslot.proofs.laws.only_owners_leave_the_stage.Goals as goal

pub returns : goal.returns
unfolding process_with
returns g c plan s id m d word many t o r at due is_open leaves =
    let Q = g.Q.Ratifier.protocol in
    let X = elector g.Q.Machine.kind_of g.Q.Machine.op g.Q.Machine.fed Q plan in
    let y = served g.Q.Machine.kind_of g.Q.Machine.op g.Q.Machine.fed Q
    g.met.Q.Machine.names_each_step g.met.Q.Ratifier.own_kinds plan.shape
    (c.election_is_lawful.ensures.lawful.laws plan.shape.rounds) plan.reuse
    (plan_passers plan) in
    owners_leave X (elections Q plan.shape.rounds)
    (sizes g.Q.Machine.kind_of g.Q.Machine.op g.Q.Machine.fed Q plan) y plan.reuse plan.bases
    (laws_are g.Q.Machine.kind_of g.Q.Machine.op g.Q.Machine.fed Q plan
    (c.threads_may_go_by.ensures.automaton plan)) s
    (rule_is g.Q.Machine.kind_of g.Q.Machine.op g.Q.Machine.fed Q plan s r) id m at d word many o
    due
    (sized Q (OfEvents X (OpensOnly X))
    (λ a b d e n most ok old T same rows reached event given new happens.
    (c.events_keep_promise.ensures a b d e n most ok old T same rows reached event given new
    happens).2) plan) t is_open leaves
