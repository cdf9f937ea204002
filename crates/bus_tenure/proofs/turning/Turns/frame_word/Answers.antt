use Rattle.bus_tenure.specs.Elections.{election_with}
use Rattle.bus_tenure.proofs.Fitting.{word_goes, some_fits}
use Rattle.bus_tenure.proofs.turning.Turns.frame_word.Goals as goal

pub returns-clause-room : goal.returns-clause-room
returns-clause-room g c = (word_goes
    (election_with g.Q.Machine.kind_of g.Q.Machine.op g.Q.Machine.fed g.Q.Ratifier.protocol) _ _ _ _
    c.self.view_is c.self.invariant c.args.tenure c.args.words c.args.stored c.requires).0

pub returns-clause-log : goal.returns-clause-log
returns-clause-log g c =
    let goes = word_goes
    (election_with g.Q.Machine.kind_of g.Q.Machine.op g.Q.Machine.fed g.Q.Ratifier.protocol) _ _ _ _
    c.self.view_is c.self.invariant c.args.tenure c.args.words c.args.stored c.requires in
    some_fits c.args.self.now c.args.words c.args.stored goes.0 goes.1

pub returns-clause-number : goal.returns-clause-number
returns-clause-number g c = (word_goes
    (election_with g.Q.Machine.kind_of g.Q.Machine.op g.Q.Machine.fed g.Q.Ratifier.protocol) _ _ _ _
    c.self.view_is c.self.invariant c.args.tenure c.args.words c.args.stored c.requires).2
