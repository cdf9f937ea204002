use Rattle.bus_receiver.proofs.Passing.{as_written}
use Rattle.bus_receiver.proofs.receivers.Receiver.next_item.Goals as goal

pub returns-then-next_item_in_place-clause-passes :
    goal.returns-then-next_item_in_place-clause-passes
returns-then-next_item_in_place-clause-passes g c = as_written _ _ _ _
    c.if-next_item_in_place.true c.next_item_in_place.new.item
    c.next_item_in_place.ensures.passes

pub returns-else-next_item_in_place-clause-passes :
    goal.returns-else-next_item_in_place-clause-passes
returns-else-next_item_in_place-clause-passes g c = as_written _ _ _ _
    c.if-next_item_in_place.false c.next_item_in_place.new.item
    c.next_item_in_place.ensures.passes
