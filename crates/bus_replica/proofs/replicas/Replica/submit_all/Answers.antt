use Rattle.std.proofs.Common.{[], ◌∷◌, ◌++◌}
use Rattle.bus_automaton.specs.ThreeWordBuses.{process}
use Rattle.bus_replica.specs.Causes.{tells, SaysStop}
use Rattle.bus_replica.proofs.CauseLaws.{cause_settled}
use Rattle.bus_replica.proofs.SendingLaws.{put_settled, refused_settled}
use Rattle.bus_replica.proofs.replicas.Replica.submit_all.Goals as goal

pub returns-clause-put : goal.returns-clause-put
returns-clause-put g c =
    rw (← c.self.view_is)
    (put_settled process tells c.self.inside.worker.sender c.put-given.new.self.sender
    c.settle.new.self.sender (c.args.before.now ++ c.args.op.now ∷ []) c.put-given.result
    c.settle.ensures.puts
    c.put-given.ensures.put)

pub returns-clause-refused : goal.returns-clause-refused
returns-clause-refused g c =
    rw (← c.self.view_is)
    (refused_settled process tells c.self.inside.worker.sender c.put-given.new.self.sender
    c.settle.new.self.sender c.put-given.result c.settle.ensures.puts
    c.put-given.ensures.refused)

pub returns-clause-cause : goal.returns-clause-cause
returns-clause-cause g c =
    rw (← c.self.view_is)
    (cause_settled process tells c.self.inside.worker c.put-given.new.self c.settle.new.self
    ⊥ (SaysStop (goal.F-step g) c.args.go_on)
    c.put-given.result c.settle.ensures.puts.works c.settle.ensures.me.0
    c.put-given.ensures.cause)
