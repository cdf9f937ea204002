use Rattle.bus_replica.proofs.MachineLaws.{executed, read}
use Rattle.bus_replica.proofs.histories.promises_are_linearizable.Goals as goal

pub returns : goal.returns
returns g c = record {
  executes = executed g.S.State.is_first g.S.State.applies;
  reads = read g.S.State.is_first g.S.State.applies;
}
