use Rattle.bus_replica.proofs.RecordedLaws.{led_functions, led_on, one_executed, one_read}
use Rattle.bus_replica.proofs.recorded_laws.sittings_are_one.Goals as goal

pub returns : goal.returns
returns g c = record {
  states = led_on g.S.State.is_first g.S.State.applies;
  executes = one_executed g.S.State.is_first g.S.State.applies;
  reads = one_read g.S.State.is_first g.S.State.applies;
  functions = led_functions g.S.State.is_first g.S.State.applies;
}
