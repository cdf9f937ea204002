use Rattle.bus_tenure.specs.Elections.{election_with}
use Rattle.bus_machine.proofs.Refused.PromiseRefused.{refused}
use Rattle.bus_machine.proofs.laws.promise_refuses.Goals as goal

pub returns : goal.returns
returns g c machine trails = refused
    (election_with g.Q.Machine.kind_of g.Q.Machine.op g.Q.Machine.fed g.Q.Ratifier.protocol) machine
    trails
