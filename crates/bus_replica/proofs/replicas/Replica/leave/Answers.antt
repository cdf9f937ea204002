use Rattle.bus_automaton.specs.ThreeWordBuses.{process}
use Rattle.bus_replica.specs.Causes.{tells}
use Rattle.bus_replica.proofs.CauseLaws.{end_yes}
use Rattle.bus_replica.proofs.replicas.Replica.leave.Goals as goal

pub returns-clause-cause : goal.returns-clause-cause
returns-clause-cause g c =
    end_yes process tells c.args.self.now c.leave_while.new.self
    c.args.self.now.bus.plan.shape.senders _ _ c.leave_while.result c.leave_while.ensures.cause
    (λ f told f' said. search)
