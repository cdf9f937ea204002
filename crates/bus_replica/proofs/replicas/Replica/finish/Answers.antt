use Rattle.bus_automaton.specs.ThreeWordBuses.{process}
use Rattle.bus_replica.specs.Causes.{tells}
use Rattle.bus_replica.proofs.CauseLaws.{finish_yes}
use Rattle.bus_replica.proofs.replicas.Replica.finish.Goals as goal

pub returns-clause-cause : goal.returns-clause-cause
returns-clause-cause g c =
    finish_yes process tells c.args.self c.args.self.bus.plan.shape.senders _ _
    c.finish_while.result c.finish_while.ensures.cause (λ f told f' said. search)
