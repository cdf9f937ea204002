use Rattle.bus_automaton.specs.Buses.{process_with}
use Rattle.bus_pageslot.specs.Turns.{Sends, tells_with}
use Rattle.bus_handles.proofs.SendingLaws.{delivers, delivers_none}
use Rattle.bus_handles.proofs.senders.SenderHandle.deliver.Goals as goal

pub returns-clause-delivered : goal.returns-clause-delivered
returns-clause-delivered g c =
    let P = process_with g.Q.Machine.kind_of g.Q.Machine.op g.Q.Machine.fed g.Q.Ratifier.protocol in
    let T = tells_with g.Q.Machine.kind_of g.Q.Machine.op g.Q.Machine.fed g.Q.Ratifier.protocol in
    rw (← c.self.view_is) (delivers (λ t. Sends P T c.self.inside.sender t c.send-turn.new.self)
    c.send-turn.result c.answered.result c.send-turn.ensures.sends c.answered.ensures.delivered)

pub returns-clause-not_delivered : goal.returns-clause-not_delivered
returns-clause-not_delivered g c =
    let P = process_with g.Q.Machine.kind_of g.Q.Machine.op g.Q.Machine.fed g.Q.Ratifier.protocol in
    let T = tells_with g.Q.Machine.kind_of g.Q.Machine.op g.Q.Machine.fed g.Q.Ratifier.protocol in
    rw (← c.self.view_is) (delivers_none P
    (λ t. Sends P T c.self.inside.sender t c.send-turn.new.self) c.self.inside.sender
    c.send-turn.result c.send-turn.new.self c.answered.result c.send-turn.ensures.sends
    c.send-turn.ensures.keeps c.answered.ensures.not_delivered)
