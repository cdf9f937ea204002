use Rattle.bus_handles.proofs.senders.SenderHandle.turns.Goals as goal

pub returns-clause-turns : goal.returns-clause-turns
returns-clause-turns g c = rw (← c.self.view_is) c.turns.ensures.turns
