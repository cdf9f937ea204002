use Rattle.bus_handles.specs.Asking.{SaysEither}
use Rattle.bus_handles.proofs.HearingLaws.{passes_as}
use Rattle.bus_handles.proofs.receivers.ReceiverHandle.next_item_timeout.Goals as goal

pub returns-clause-passes : goal.returns-clause-passes
returns-clause-passes g c = rw (← c.self.view_is)
    (passes_as _ SaysEither (λ f told f' said. tt) _ _ _ _ c.next_item_while.ensures.passes)
