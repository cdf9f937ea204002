use Rattle.std.proofs.Common.{length, sym, ◌∙◌, ap}
use Rattle.bus_automaton.specs.Buses.{process_with}
use Rattle.bus_pageslot.specs.Sendings.{waiting_of}
use Rattle.bus_pageslot.proofs.Ruled.Processes.{messages_are}
use Rattle.bus_pageslot.proofs.seats.Sender.pending.Goals as goal

pub returns : goal.returns
returns g c =
    let P = process_with g.Q.Machine.kind_of g.Q.Machine.op g.Q.Machine.fed g.Q.Ratifier.protocol in
    c.pending.ensures
    ∙ ap length
    (sym (messages_are g.Q.Machine.kind_of g.Q.Machine.op g.Q.Machine.fed g.Q.Ratifier.protocol
    c.self.inside.core)) ∙ ap (λ s. length (waiting_of P s)) c.self.view_is
