use Rattle.bus_handles.proofs.senders.SenderHandle.send_all.Goals as goal

pub returns-clause-all : goal.returns-clause-all
returns-clause-all g c = rw (← c.self.view_is) c.send_all.ensures.all

pub returns-clause-part : goal.returns-clause-part
returns-clause-part g c = rw (← c.self.view_is) c.send_all.ensures.part
