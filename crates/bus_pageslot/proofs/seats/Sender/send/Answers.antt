use Rattle.std.proofs.Common.{◌≡◌, true, subst}
use Rattle.std.specs.Prelude.{IfSome}
use Rattle.bus_automaton.specs.Buses.{process_with}
use Rattle.bus_tenure.specs.Classes.{is_refusal}
use Rattle.bus_pageslot.specs.Sendings.{KeptAfter}
use Rattle.bus_pageslot.proofs.Sends.Sending.{sends_if}
use Rattle.bus_pageslot.proofs.seats.Sender.send.Goals as goal

pub returns-clause-sends : goal.returns-clause-sends
returns-clause-sends g c = sends_if _ _ _ _ _ _ _ c.send_while.ensures.sends _ c.unwrap.ensures

pub returns-clause-keeps : goal.returns-clause-keeps
returns-clause-keeps g c =
    let P = process_with g.Q.Machine.kind_of g.Q.Machine.op g.Q.Machine.fed g.Q.Ratifier.protocol in
    subst (λ r. IfSome r
    (λ turn. is_refusal turn ≡ true → KeptAfter P c.args.self.now turn c.send_while.new.self))
    c.unwrap.ensures c.send_while.ensures.keeps
