use Rattle.std.proofs.Common.{sym, ◌∙◌, ap}
use Rattle.bus_automaton.specs.Buses.{process_with}
use Rattle.bus_tenure.specs.Core.{is_leaving}
use Rattle.bus_pageslot.proofs.Ruled.Processes.{leaving_is}
use Rattle.bus_pageslot.proofs.seats.Sender.is_leaving.Goals as goal

pub returns : goal.returns
returns g c =
    let P = process_with g.Q.Machine.kind_of g.Q.Machine.op g.Q.Machine.fed g.Q.Ratifier.protocol in
    c.is_leaving.ensures
    ∙ sym (leaving_is g.Q.Machine.kind_of g.Q.Machine.op g.Q.Machine.fed g.Q.Ratifier.protocol
    c.self.inside.core)
    ∙ ap (λ s. is_leaving (P.queue s.core).phase) c.self.view_is
