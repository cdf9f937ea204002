use Rattle.bus_receiver.proofs.Passing.{as_told}
use Rattle.bus_receiver.proofs.receivers.Receiver.next_item_while.Goals as goal

pub returns-in-Item-clause-passes : goal.returns-in-Item-clause-passes
returns-in-Item-clause-passes g c =
    as_told _ _ _ _ _ _ c.in-Item.is c.pass_while.new.item c.pass_while.ensures.passes

pub returns-in-End-clause-passes : goal.returns-in-End-clause-passes
returns-in-End-clause-passes g c =
    as_told _ _ _ _ _ _ c.in-End.is c.pass_while.new.item c.pass_while.ensures.passes

pub returns-in-Stopped-clause-passes : goal.returns-in-Stopped-clause-passes
returns-in-Stopped-clause-passes g c =
    as_told _ _ _ _ _ _ c.in-Stopped.is c.pass_while.new.item c.pass_while.ensures.passes
