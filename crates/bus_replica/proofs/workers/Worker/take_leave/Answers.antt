use Rattle.bus_automaton.specs.ThreeWordBuses.{process}
use Rattle.bus_replica.specs.Causes.{tells}
use Rattle.bus_replica.proofs.SendingLaws.{leave_taken, leave_refused}
use Rattle.bus_replica.proofs.workers.Worker.take_leave.Goals as goal

pub returns-clause-taken : goal.returns-clause-taken
returns-clause-taken g c =
    rw (← c.self.view_is)
    (leave_taken process tells c.leave-taken.result c.self.inside.sender c.leave-taken.new.self
    c.leave-taken.ensures.taken c.leave-taken.ensures.action c.leave-taken.ensures.could
    c.leave-taken.ensures.seat c.senders_stay_who_they_are.ensures.marks)

pub returns-clause-refused : goal.returns-clause-refused
returns-clause-refused g c =
    rw (← c.self.view_is)
    (leave_refused c.leave-taken.result c.self.inside.sender c.leave-taken.new.self
    c.leave-taken.ensures.refused c.leave-taken.ensures.seat)
