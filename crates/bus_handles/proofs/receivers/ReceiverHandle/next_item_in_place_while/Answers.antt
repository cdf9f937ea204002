use Rattle.bus_handles.proofs.receivers.ReceiverHandle.next_item_in_place_while.Goals as goal

pub returns-clause-passes : goal.returns-clause-passes
returns-clause-passes g c = rw (← c.self.view_is) c.next_item_in_place_while.ensures.passes
