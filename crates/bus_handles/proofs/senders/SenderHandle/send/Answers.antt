use Rattle.bus_handles.proofs.senders.SenderHandle.send.Goals as goal

pub returns-clause-sends : goal.returns-clause-sends
returns-clause-sends g c = rw (← c.self.view_is) c.send.ensures.sends
