use Rattle.std.proofs.Common.{length}
use Rattle.bus_automaton.specs.ThreeWordBuses.{process}
use Rattle.bus_replica.specs.Causes.{tells}
use Rattle.bus_replica.proofs.BatchLaws.{open_with, refused_short}
use Rattle.bus_replica.proofs.SendingLaws.{put_more, put_stays}
use Rattle.bus_replica.proofs.workers.Worker.put_one.Goals as goal

pub returns-clause-put : goal.returns-clause-put
returns-clause-put g c =
    rw (← c.self.view_is)
    (put_more process c.put.result c.self.inside.sender c.put.new.self c.args.op.now
    c.put.ensures.could c.put.ensures.taken c.put.ensures.seat c.put.ensures.number
    c.put.ensures.action c.put.ensures.counts c.senders_stay_who_they_are.ensures.puts)

pub returns-clause-refused : goal.returns-clause-refused
returns-clause-refused g c =
    rw (← c.self.view_is)
    (put_stays process tells c.put.result c.self.inside.sender c.put.new.self
    c.put.ensures.refused c.put.ensures.seat)

pub returns-clause-open : goal.returns-clause-open
returns-clause-open g c =
    rw (← c.self.view_is)
    (open_with process c.threads_may_go_by.ensures.process c.put.result c.self.inside.sender.core
    c.put.new.self.core c.args.op.now c.put.ensures.could c.put.ensures.taken)

pub returns-clause-refuses : goal.returns-clause-refuses
returns-clause-refuses g c =
    rw (← c.self.view_is)
    (refused_short (process.queue c.self.inside.sender.core) (length c.args.op.now) c.put.result
    c.requires.short c.put.ensures.fault)
