use Rattle.bus_automaton.specs.ThreeWordBuses.{process}
use Rattle.bus_replica.specs.Causes.{tells, SaysStop}
use Rattle.bus_replica.proofs.CauseLaws.{cause_settled}
use Rattle.bus_replica.proofs.SendingLaws.{stay_on}
use Rattle.bus_replica.proofs.replicas.Replica.flush_while.Goals as goal

pub returns-clause-puts : goal.returns-clause-puts
returns-clause-puts g c =
    rw (← c.self.view_is)
    (stay_on process tells c.self.inside.worker.sender c.send_all-sent.new.self.sender
    c.settle.new.self.sender c.send_all-sent.ensures.puts c.settle.ensures.puts)

pub returns-clause-cause : goal.returns-clause-cause
returns-clause-cause g c =
    rw (← c.self.view_is)
    (cause_settled process tells c.self.inside.worker c.send_all-sent.new.self c.settle.new.self ⊥
    (SaysStop (goal.F-step g) c.args.go_on) c.send_all-sent.result c.settle.ensures.puts.works
    c.settle.ensures.me.0 c.send_all-sent.ensures.cause)
