use Rattle.bus_handles.proofs.opening.opened_ring.Goals as goal

pub returns-clause-opened : goal.returns-clause-opened
returns-clause-opened g c = record {
  bus = c.in_ok-bus.bus;
  plan_is = c.in_ok-bus.ensures.plan;
  senders_are = rw c.in_ok-handles.ensures.senders c.in_ok-bus.ensures.senders;
  receivers_are = rw c.in_ok-handles.ensures.receivers c.in_ok-bus.ensures.taps;
  of_bus = rw c.in_ok-handles.ensures.senders c.in_ok-bus.ensures.table.0;
  to_bus = c.in_ok-handles.ensures.bus;
}
