use Rattle.bus_handles.specs.Asking.{SaysNo}
use Rattle.bus_handles.proofs.SendingLaws.{sends_asking_as, stops_asking_as}
use Rattle.bus_handles.proofs.senders.SenderHandle.try_send.Goals as goal

pub returns-clause-sends : goal.returns-clause-sends
returns-clause-sends g c =
    sends_asking_as _ _ _ SaysNo _ _ _ _ c.send_while.ensures.sends (λ f told f' said. search)

pub returns-clause-stops : goal.returns-clause-stops
returns-clause-stops g c =
    stops_asking_as _ _ _ SaysNo _ _ _ _ c.send_while.ensures.stops (λ f told f' said. search)
