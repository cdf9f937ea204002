use Rattle.bus_handles.proofs.senders.SenderHandle.turn.Goals as goal

pub returns-clause-steps : goal.returns-clause-steps
returns-clause-steps g c = rw (← c.self.view_is) c.turn.ensures.steps
