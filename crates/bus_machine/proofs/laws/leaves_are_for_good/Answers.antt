use Rattle.bus_tenure.specs.Elections.{election_with}
use Rattle.bus_machine.proofs.Stops.LeaveLaws.{leaves_for_good, leave_refuses}
use Rattle.bus_machine.proofs.laws.leaves_are_for_good.Goals as goal

pub returns : goal.returns
returns g c =
    let X =
    election_with g.Q.Machine.kind_of g.Q.Machine.op g.Q.Machine.fed g.Q.Ratifier.protocol in
    record { leaves = leaves_for_good X g.Q.Ratifier.protocol; refuses = leave_refuses X }
