use Rattle.std.proofs.Common.{[], ◌∷◌, ◌++◌}
use Rattle.bus_automaton.specs.ThreeWordBuses.{process}
use Rattle.bus_replica.specs.Causes.{tells, SaysStop}
use Rattle.bus_replica.proofs.CauseLaws.{cause_settled}
use Rattle.bus_replica.proofs.SendingLaws.{executed_settled, once_settled}
use Rattle.bus_replica.proofs.replicas.Replica.execute_all.Goals as goal

pub returns-clause-executed : goal.returns-clause-executed
returns-clause-executed g c =
    rw (← c.self.view_is)
    (executed_settled g.S.State.is_first g.S.State.applies process tells c.self.inside.worker
    c.execute-answered.new.self c.settle.new.self (c.args.before.now ++ c.args.op.now ∷ [])
    (process.me c.self.inside.worker.sender.core) c.execute-answered.result
    c.settle.ensures.puts c.settle.ensures.bus c.settle.ensures.me.0 c.settle.ensures.me.1
    c.execute-answered.ensures.executed)

pub returns-clause-refused : goal.returns-clause-refused
returns-clause-refused g c =
    rw (← c.self.view_is)
    (once_settled process tells c.self.inside.worker.sender c.execute-answered.new.self.sender
    c.settle.new.self.sender (c.args.before.now ++ c.args.op.now ∷ []) c.execute-answered.result
    c.settle.ensures.puts
    c.execute-answered.ensures.refused)

pub returns-clause-cause : goal.returns-clause-cause
returns-clause-cause g c =
    rw (← c.self.view_is)
    (cause_settled process tells c.self.inside.worker c.execute-answered.new.self
    c.settle.new.self ⊥
    (SaysStop (goal.F-step g) c.args.go_on) c.execute-answered.result
    c.settle.ensures.puts.works c.settle.ensures.me.0 c.execute-answered.ensures.cause)
