use Rattle.bus_machine.specs.Telling.{Tells}
use Rattle.bus_automaton.specs.Buses.{process_with, automaton_with}
use Rattle.bus_pageslot.proofs.Said.Histories.{elector, sizes, laws_are, sized}
use Rattle.bus_pageslot.proofs.SeatSteps.Stepping.{OfEvents}
use Rattle.bus_pageslot.proofs.Said.Truths.{told_truly}
use Rattle.bus_pageslot.proofs.laws.answers_are_true.Goals as goal

pub returns : goal.returns
unfolding process_with automaton_with
returns g c plan s id m d word many o r at due =
    let Q = g.Q.Ratifier.protocol in
    let X = elector g.Q.Machine.kind_of g.Q.Machine.op g.Q.Machine.fed Q plan in
    told_truly X (sizes g.Q.Machine.kind_of g.Q.Machine.op g.Q.Machine.fed Q plan) plan.reuse
    plan.bases c.threads_may_go_by.ensures.process
    (laws_are g.Q.Machine.kind_of g.Q.Machine.op g.Q.Machine.fed Q plan
    (c.threads_may_go_by.ensures.automaton plan)) s
    r id m at d word many o due
    (sized Q (OfEvents X (λ old e a new. Tells X old e a))
    (λ a b d e n most ok old T same rows reached event given new happens.
    (c.events_keep_promise.ensures a b d e n most ok old T same rows reached event given new
    happens).1) plan)
