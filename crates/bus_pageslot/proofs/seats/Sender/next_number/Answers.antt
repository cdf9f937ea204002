use Rattle.std.proofs.Common.{sym, ◌∙◌, ap}
use Rattle.bus_automaton.specs.Buses.{process_with}
use Rattle.bus_batch.specs.Batches.{next_of}
use Rattle.bus_pageslot.proofs.Ruled.Processes.{next_is}
use Rattle.bus_pageslot.proofs.seats.Sender.next_number.Goals as goal

pub returns : goal.returns
returns g c =
    let P = process_with g.Q.Machine.kind_of g.Q.Machine.op g.Q.Machine.fed g.Q.Ratifier.protocol in
    c.next_number.ensures
    ∙ sym (next_is g.Q.Machine.kind_of g.Q.Machine.op g.Q.Machine.fed g.Q.Ratifier.protocol
    c.self.inside.core) ∙ ap (λ s. next_of (P.queue s.core)) c.self.view_is
