use Rattle.std.proofs.Common.{arith}
use Rattle.bus_automaton.specs.Buses.{process_with}
use Rattle.bus_pageslot.specs.Turns.{tells_with}
use Rattle.bus_pageslot.proofs.Sends.Batching.{room_made}
use Rattle.bus_pageslot.proofs.seats.Sender.make_room.Goals as goal

pub returns-clause-sends : goal.returns-clause-sends
returns-clause-sends g c =
    let P = process_with g.Q.Machine.kind_of g.Q.Machine.op g.Q.Machine.fed g.Q.Ratifier.protocol in
    let T = tells_with g.Q.Machine.kind_of g.Q.Machine.op g.Q.Machine.fed g.Q.Ratifier.protocol in
    room_made P T c.threads_may_go_by.ensures.process c.args.self.now c.send_off-sent.new.self
    c.send_off-sent.result
    (let is = c.pending.ensures in
    let limit = c.batch_limit.ensures.limit in
    let full = c.if-pending-batch_limit.false in omega arith)
    c.send_off-sent.ensures.sends
