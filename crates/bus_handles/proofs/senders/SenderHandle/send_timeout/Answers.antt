use Rattle.bus_handles.specs.Asking.{SaysEither}
use Rattle.bus_handles.proofs.SendingLaws.{sends_asking_as, stops_asking_as}
use Rattle.bus_handles.proofs.senders.SenderHandle.send_timeout.Goals as goal

pub returns-clause-sends : goal.returns-clause-sends
returns-clause-sends g c = rw (← c.self.view_is)
    (sends_asking_as _ _ _ SaysEither _ _ _ _ c.send_while.ensures.sends (λ f told f' said. tt))

pub returns-clause-stops : goal.returns-clause-stops
returns-clause-stops g c = rw (← c.self.view_is)
    (stops_asking_as _ _ _ SaysEither _ _ _ _ c.send_while.ensures.stops (λ f told f' said. tt))
