use Rattle.bus_tenure.specs.Elections.{election_with}
use Rattle.bus_machine.proofs.Refused.LogRefused.{logs_refused, published_refused}
use Rattle.bus_machine.proofs.laws.logs_refuse.Goals as goal

pub returns-clause-logs : goal.returns-clause-logs
returns-clause-logs g c machine trails = logs_refused
    (election_with g.Q.Machine.kind_of g.Q.Machine.op g.Q.Machine.fed g.Q.Ratifier.protocol) machine
    trails

pub returns-clause-published : goal.returns-clause-published
returns-clause-published g c machine before frame = published_refused machine before frame
