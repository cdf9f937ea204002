use Rattle.bus_tenure.specs.Elections.{election_with}
use Rattle.bus_replica.proofs.MachineLaws.{goes_on, machine_executed, machine_histories}
use Rattle.bus_replica.proofs.MachineLaws.{machine_read, orders_go_on}
use Rattle.bus_replica.proofs.histories.machines_are_linearizable.Goals as goal

pub returns : goal.returns
returns g c =
    let P = g.Q.Ratifier.protocol in
    let X = election_with g.Q.Machine.kind_of g.Q.Machine.op g.Q.Machine.fed P in
    record {
      executes = machine_executed X g.S.State.is_first g.S.State.applies;
      reads = machine_read X g.S.State.is_first g.S.State.applies;
      orders = orders_go_on X;
      plays = goes_on X P;
      histories = machine_histories X g.S.State.is_first g.S.State.applies;
    }
