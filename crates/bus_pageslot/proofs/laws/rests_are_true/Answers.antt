use Rattle.bus_machine.specs.Telling.{Tells}
use Rattle.bus_automaton.specs.Buses.{process_with, automaton_with}
use Rattle.bus_pageslot.proofs.Said.Histories.{elector, sizes, laws_are, sized}
use Rattle.bus_pageslot.proofs.Sends.Resting.{rests_truly, closed_refused, spent_refused}
use Rattle.bus_pageslot.proofs.SeatSteps.Stepping.{OfEvents}
use Rattle.bus_pageslot.proofs.laws.rests_are_true.Goals as goal

pub returns-clause-rests : goal.returns-clause-rests
unfolding process_with automaton_with
returns-clause-rests g c plan s seat v d sender_trail actions r shown more =
    let Q = g.Q.Ratifier.protocol in
    let X = elector g.Q.Machine.kind_of g.Q.Machine.op g.Q.Machine.fed Q plan in
    rests_truly X (sizes g.Q.Machine.kind_of g.Q.Machine.op g.Q.Machine.fed Q plan) plan.reuse
    plan.bases
    (laws_are g.Q.Machine.kind_of g.Q.Machine.op g.Q.Machine.fed Q plan
    (c.threads_may_go_by.ensures.automaton plan)) s
    r seat v d sender_trail actions shown more
    (sized Q (OfEvents X (λ old e a new. Tells X old e a))
    (λ a b d e n most ok old T same rows reached event given new happens.
    (c.events_keep_promise.ensures a b d e n most ok old T same rows reached event given new
    happens).1) plan)

pub returns-clause-refused : goal.returns-clause-refused
returns-clause-refused g c sizes reuse plan s d actions r = (
  closed_refused (c.threads_may_go_by.ensures.automaton plan) sizes reuse s r d actions,
  spent_refused sizes reuse s r d actions,
)
