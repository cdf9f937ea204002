use Rattle.bus_automaton.specs.Buses.{process_with}
use Rattle.bus_pageslot.specs.Turns.{tells_with}
use Rattle.bus_handles.proofs.ClosingLaws.{ends, ends_not}
use Rattle.bus_handles.proofs.senders.SenderHandle.end_order.Goals as goal

pub returns-clause-ended : goal.returns-clause-ended
returns-clause-ended g c =
    let P = process_with g.Q.Machine.kind_of g.Q.Machine.op g.Q.Machine.fed g.Q.Ratifier.protocol in
    let T = tells_with g.Q.Machine.kind_of g.Q.Machine.op g.Q.Machine.fed g.Q.Ratifier.protocol in
    rw (← c.self.view_is) (ends P T c.self.inside.sender c.close.new.self c.send-turn.new.self
    c.send-turn.result c.order_ended.result (record {
      could = c.in_default.ensures.could;
      core = c.in_default.ensures.taken;
      seat = c.in_default.ensures.seat;
      action = c.in_default.ensures.action;
    }) c.send-turn.ensures.sends c.order_ended.ensures.ended)

pub returns-clause-not_ended : goal.returns-clause-not_ended
returns-clause-not_ended g c =
    let P = process_with g.Q.Machine.kind_of g.Q.Machine.op g.Q.Machine.fed g.Q.Ratifier.protocol in
    let T = tells_with g.Q.Machine.kind_of g.Q.Machine.op g.Q.Machine.fed g.Q.Ratifier.protocol in
    rw (← c.self.view_is) (ends_not P T c.self.inside.sender c.close.new.self c.send-turn.new.self
    c.send-turn.result c.order_ended.result (record {
      could = c.in_default.ensures.could;
      core = c.in_default.ensures.taken;
      seat = c.in_default.ensures.seat;
      action = c.in_default.ensures.action;
    }) c.send-turn.ensures.sends c.order_ended.ensures.not_ended)
