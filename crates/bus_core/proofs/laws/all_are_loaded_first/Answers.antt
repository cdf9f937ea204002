use Rattle.bus_tenure.specs.Elections.{election_with}
use Rattle.bus_core.proofs.Loading.{loads_all_first}
use Rattle.bus_core.proofs.laws.all_are_loaded_first.Goals as goal

pub returns : goal.returns
returns g c sender = loads_all_first
    (election_with g.Q.Machine.kind_of g.Q.Machine.op g.Q.Machine.fed g.Q.Ratifier.protocol) sender
