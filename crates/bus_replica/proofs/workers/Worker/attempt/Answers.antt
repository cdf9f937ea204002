use Rattle.bus_automaton.specs.ThreeWordBuses.{process}
use Rattle.bus_replica.specs.Causes.{tells}
use Rattle.bus_replica.specs.Replicas.{PutsStay}
use Rattle.bus_replica.proofs.SendingLaws.{tried_answered, tried_same, tried_works}
use Rattle.bus_replica.proofs.workers.Worker.attempt.Goals as goal

pub returns-clause-puts : goal.returns-clause-puts
returns-clause-puts g c =
    let same = tried_same process tells c.senders_stay_who_they_are.ensures.turn _
    c.self.inside.sender tt c.try_send.result c.try_send.new.self c.try_send.ensures.sends
    c.try_send.ensures.stops in
    let stays : PutsStay process tells c.self.inside.sender c.try_send.new.self = record {
      puts_are = c.try_send.ensures.puts;
      first_is = same.first;
      me_is = same.me;
      works = tried_works process tells c.senders_stay_who_they_are.ensures.turn _
          c.self.inside.sender tt c.try_send.result c.try_send.new.self c.try_send.ensures.sends
          c.try_send.ensures.stops;
    } in
    rw (← c.self.view_is) stays

pub returns-clause-answered : goal.returns-clause-answered
returns-clause-answered g c =
    rw (← c.self.view_is)
    (tried_answered process tells c.senders_stay_who_they_are.ensures.turn _
    c.self.inside.sender tt c.try_send.result c.try_send.new.self c.try_send.ensures.sends)
