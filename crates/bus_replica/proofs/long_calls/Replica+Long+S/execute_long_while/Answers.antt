use Rattle.bus_replica.specs.Replicas.{Here}
use Rattle.bus_replica.proofs.GoingLaws.{goes_same}
use Rattle.bus_replica.proofs.long_calls.Replica+Long+S.execute_long_while.Goals as goal

pub returns-in_default-clause-on : goal.returns-in_default-clause-on
returns-in_default-clause-on g c =
    goes_same c.args.self.now.me c.args.self.now.me c.refuse.new.self.me Here c.refuse.ensures.me.0
