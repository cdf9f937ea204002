use Rattle.std.proofs.Common.{subst}
use Rattle.bus_receiver.specs.Listening.{LeavesPlace}
use Rattle.bus_receiver.proofs.Passing.{written_in_place, ended_in_place}
use Rattle.bus_receiver.proofs.receivers.Receiver.next_item_in_place.Goals as goal

pub returns-in-Item-clause-passes : goal.returns-in-Item-clause-passes
returns-in-Item-clause-passes g c =
    written_in_place _ _ _ _ _ c.in-Item.is c.pass_while.new.item c.pass_while.ensures.passes

pub returns-in-End-clause-passes : goal.returns-in-End-clause-passes
returns-in-End-clause-passes g c =
    ended_in_place _ _ _ _ _ c.in-End.is c.pass_while.new.item c.pass_while.ensures.passes

pub returns-in-End-clause-kept : goal.returns-in-End-clause-kept
returns-in-End-clause-kept g c =
    λ no. subst (λ t. LeavesPlace t c.args.item.now c.pass_while.new.item) c.in-End.is
    c.pass_while.ensures.kept
