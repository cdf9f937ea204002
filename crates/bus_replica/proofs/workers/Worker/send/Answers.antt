use Rattle.bus_automaton.specs.ThreeWordBuses.{process}
use Rattle.bus_replica.specs.Causes.{tells}
use Rattle.bus_replica.specs.Replicas.{Here}
use Rattle.bus_replica.proofs.CauseLaws.{cause_after}
use Rattle.bus_replica.proofs.GoingLaws.{goes_same}
use Rattle.bus_replica.proofs.SendingLaws.{stay, stay_on}
use Rattle.bus_replica.proofs.workers.Worker.send.Goals as goal

pub returns-then-has_sent-clause-puts : goal.returns-then-has_sent-clause-puts
returns-then-has_sent-clause-puts g c = stay process tells c.args.self.now.sender

pub returns-clause-puts : goal.returns-clause-puts
returns-clause-puts g c =
    stay_on process tells c.args.self.now.sender c.finds_room.new.self.sender
    c.take_turns.new.self.sender c.finds_room.ensures.puts c.take_turns.ensures.puts

pub returns-clause-cause : goal.returns-clause-cause
returns-clause-cause g c =
    cause_after process tells c.args.self.now c.finds_room.new.self c.take_turns.new.self ⊥ ⊥
    (λ stops. stops) c.take_turns.result c.finds_room.ensures.puts.works
    (goes_same c.args.self.now.me c.args.self.now.me c.finds_room.new.self.me Here
    c.finds_room.ensures.me.0)
    c.take_turns.ensures.cause
