use Rattle.std.proofs.Common.{◌∙◌, ap}
use Rattle.bus_core.specs.Senders.{Sender}
use Rattle.bus_core.specs.Table.{line_now}
use Rattle.bus_tenure.specs.Elections.{Elector, election_with}
use Rattle.bus_pageslot.specs.Seats.{SenderSeat}
use Rattle.bus_pageslot.proofs.seats.Sender.due.Goals as goal

pub returns-clause-step : goal.returns-clause-step
returns-clause-step g c =
    let X =
    election_with g.Q.Machine.kind_of g.Q.Machine.op g.Q.Machine.fed g.Q.Ratifier.protocol in
    c.next.ensures.step
    ∙ ap (λ (s : SenderSeat (Sender (Elector g.row.Q.Denot))). (line_now X s.core).op c.args.word)
    c.self.view_is
