use Rattle.bus_handles.proofs.senders.SenderHandle.finish.Goals as goal

pub returns-clause-none : goal.returns-clause-none
returns-clause-none g c = rw (← c.self.view_is) c.finish.ensures.none

pub returns-clause-finishes : goal.returns-clause-finishes
returns-clause-finishes g c = rw (← c.self.view_is) c.finish.ensures.finishes
