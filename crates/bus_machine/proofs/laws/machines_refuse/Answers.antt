use Rattle.bus_tenure.specs.Elections.{election_with}
use Rattle.bus_machine.proofs.Refused.RefusalLaws.{follows_refused, marks_refused, pages_refused}
use Rattle.bus_machine.proofs.Refused.RefusalLaws.{memories_refused, words_refused, bounds_refused}
use Rattle.bus_machine.proofs.laws.machines_refuse.Goals as goal

pub returns-clause-follows : goal.returns-clause-follows
returns-clause-follows g c old event given new = follows_refused
    (election_with g.Q.Machine.kind_of g.Q.Machine.op g.Q.Machine.fed g.Q.Ratifier.protocol) old
    event given new

pub returns-clause-marks : goal.returns-clause-marks
returns-clause-marks g c old new = marks_refused
    (election_with g.Q.Machine.kind_of g.Q.Machine.op g.Q.Machine.fed g.Q.Ratifier.protocol) old new

pub returns-clause-pages : goal.returns-clause-pages
returns-clause-pages g c machine trails = pages_refused
    (election_with g.Q.Machine.kind_of g.Q.Machine.op g.Q.Machine.fed g.Q.Ratifier.protocol) machine
    trails

pub returns-clause-memories : goal.returns-clause-memories
returns-clause-memories g c machine trails =
    memories_refused
    (election_with g.Q.Machine.kind_of g.Q.Machine.op g.Q.Machine.fed g.Q.Ratifier.protocol) machine
    trails

pub returns-clause-words : goal.returns-clause-words
returns-clause-words g c machine trails =
    words_refused
    (election_with g.Q.Machine.kind_of g.Q.Machine.op g.Q.Machine.fed g.Q.Ratifier.protocol) machine
    trails

pub returns-clause-bounds : goal.returns-clause-bounds
returns-clause-bounds g c bound machine trails = bounds_refused
    (election_with g.Q.Machine.kind_of g.Q.Machine.op g.Q.Machine.fed g.Q.Ratifier.protocol) bound
    machine trails
