use Rattle.std.proofs.Common.{◌∙◌, ap}
use Rattle.bus_core.specs.Doings.{step_of}
use Rattle.bus_core.specs.Senders.{situation}
use Rattle.bus_tenure.specs.Elections.{election_with}
use Rattle.bus_pageslot.proofs.seats.Sender.next_step.Goals as goal

pub returns : goal.returns
returns g c =
    let X =
    election_with g.Q.Machine.kind_of g.Q.Machine.op g.Q.Machine.fed g.Q.Ratifier.protocol in
    c.step.ensures ∙ ap (λ s. step_of (situation X s.core)) c.self.view_is
