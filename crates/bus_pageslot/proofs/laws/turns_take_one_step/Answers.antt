use Rattle.bus_automaton.specs.Buses.{process_with}
use Rattle.bus_pageslot.specs.Turns.{tells_with}
use Rattle.bus_pageslot.proofs.Sends.Counted.{counts_one, took_counted, hears_counted, hears_noted}
use Rattle.bus_pageslot.proofs.Sends.Counted.{passes_noted}
use Rattle.bus_pageslot.proofs.laws.turns_take_one_step.Goals as goal

pub returns-clause-sender : goal.returns-clause-sender
unfolding tells_with
returns-clause-sender g c old new word answer o due turned =
    let P = process_with g.Q.Machine.kind_of g.Q.Machine.op g.Q.Machine.fed g.Q.Ratifier.protocol in
    let one = counts_one g.Q.Machine.kind_of g.Q.Machine.op g.Q.Machine.fed g.Q.Ratifier.protocol
    c.threads_may_go_by.ensures.process in
    took_counted P one old new word answer o due (turned.steps o due).took

pub returns-clause-receiver : goal.returns-clause-receiver
returns-clause-receiver g c x e answer m going within h = hears_counted x e answer m going within h

pub returns-clause-passes : goal.returns-clause-passes
returns-clause-passes g c x e answer m going due h = passes_noted x e answer m going due h

pub returns-clause-loads : goal.returns-clause-loads
returns-clause-loads g c x e answer m going not_due within h =
    hears_noted x e answer m going not_due within h
