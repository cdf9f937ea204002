use Rattle.std.proofs.Common.{arith}
use Rattle.bus_automaton.specs.Buses.{process_with}
use Rattle.bus_pageslot.specs.Turns.{tells_with}
use Rattle.bus_pageslot.proofs.Sends.Batching.{keeps}
use Rattle.bus_pageslot.proofs.seats.Sender.send_off.Goals as goal

pub returns-then-pending-gt0-clause-keeps : goal.returns-then-pending-gt0-clause-keeps
returns-then-pending-gt0-clause-keeps g c =
    let P = process_with g.Q.Machine.kind_of g.Q.Machine.op g.Q.Machine.fed g.Q.Ratifier.protocol in
    let T = tells_with g.Q.Machine.kind_of g.Q.Machine.op g.Q.Machine.fed g.Q.Ratifier.protocol in
    keeps P T c.threads_may_go_by.ensures.process c.args.self.now c.send-turn.result
    c.send-turn.new.self c.send-turn.ensures.sends
    (let is = c.pending.ensures in let more = c.if-pending-gt0.true in omega arith)
