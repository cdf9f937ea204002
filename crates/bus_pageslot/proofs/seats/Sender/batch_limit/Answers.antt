use Rattle.std.proofs.Common.{sym, ◌∙◌, ap}
use Rattle.bus_automaton.specs.Buses.{process_with}
use Rattle.bus_pageslot.specs.Sendings.{limit_of}
use Rattle.bus_pageslot.proofs.Ruled.Processes.{limit_is}
use Rattle.bus_pageslot.proofs.seats.Sender.batch_limit.Goals as goal

pub returns-clause-limit : goal.returns-clause-limit
returns-clause-limit g c =
    let P = process_with g.Q.Machine.kind_of g.Q.Machine.op g.Q.Machine.fed g.Q.Ratifier.protocol in
    c.batch_limit.ensures.queue
    ∙ sym (limit_is g.Q.Machine.kind_of g.Q.Machine.op g.Q.Machine.fed g.Q.Ratifier.protocol
    c.self.inside.core) ∙ ap (limit_of P) c.self.view_is

pub returns-clause-bus : goal.returns-clause-bus
unfolding process_with
returns-clause-bus g c =
    c.batch_limit.ensures.limit ∙ ap (λ s. s.core.core.layout.batch) c.self.view_is
