use Rattle.bus_replica.specs.Replicas.{Here}
use Rattle.bus_replica.proofs.GoingLaws.{goes_same}
use Rattle.bus_replica.proofs.replicas.Replica.execute_while.Goals as goal

pub returns-then-op-gt-MOST_BYTES-clause-on : goal.returns-then-op-gt-MOST_BYTES-clause-on
returns-then-op-gt-MOST_BYTES-clause-on g c =
    goes_same c.args.self.now.me c.args.self.now.me c.refuse.new.self.me Here c.refuse.ensures.me.0
