use Rattle.bus_automaton.specs.ThreeWordBuses.{process}
use Rattle.bus_replica.specs.Causes.{tells, SaysStop}
use Rattle.bus_replica.proofs.CauseLaws.{end_settled}
use Rattle.bus_replica.proofs.GoingLaws.{goes_same}
use Rattle.bus_replica.proofs.LeavingLaws.{left_settled}
use Rattle.bus_replica.proofs.SendingLaws.{leaving_on}
use Rattle.bus_replica.proofs.replicas.Replica.leave_while.Goals as goal

pub returns-clause-on : goal.returns-clause-on
returns-clause-on g c =
    rw (← c.self.view_is)
    (goes_same c.self.inside.worker.me c.leave-left.new.self.me c.settle.new.self.me
    c.leave-left.ensures.on c.settle.ensures.me.0)

pub returns-clause-puts : goal.returns-clause-puts
returns-clause-puts g c =
    rw (← c.self.view_is)
    (leaving_on process tells c.self.inside.worker.sender c.leave-left.new.self.sender
    c.settle.new.self.sender c.leave-left.ensures.puts c.settle.ensures.puts)

pub returns-clause-left : goal.returns-clause-left
returns-clause-left g c =
    left_settled c.leave-left.new.self c.settle.new.self c.leave-left.result
    c.settle.ensures.bus c.settle.ensures.me.0 c.leave-left.ensures.left

pub returns-clause-cause : goal.returns-clause-cause
returns-clause-cause g c =
    rw (← c.self.view_is)
    (end_settled process tells c.self.inside.worker c.leave-left.new.self c.settle.new.self
    (SaysStop (goal.F-step g) c.args.go_on) c.self.inside.worker.bus.plan.shape.senders
    c.leave-left.result c.settle.ensures.puts.works c.settle.ensures.me.0
    c.leave-left.ensures.cause)
