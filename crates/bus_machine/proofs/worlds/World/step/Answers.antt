use Rattle.bus_tenure.specs.Elections.{elections, election_with}
use Rattle.bus_machine.proofs.Bases.Served.{served}
use Rattle.bus_machine.proofs.Calls.Held.{all_answer}
use Rattle.bus_machine.proofs.worlds.World.step.Goals as goal

pub returns-clause-answered : goal.returns-clause-answered
returns-clause-answered g c =
    let P = g.Q.Ratifier.protocol in
    let X = election_with g.Q.Machine.kind_of g.Q.Machine.op g.Q.Machine.fed P in
    let shape = c.self.inside.shape in
    let R = elections P shape.rounds in
    let s = served g.Q.Machine.kind_of g.Q.Machine.op g.Q.Machine.fed P
    g.met.Q.Machine.names_each_step g.met.Q.Ratifier.own_kinds shape
    (c.election_is_lawful.ensures.lawful.laws shape.rounds) c.self.inside.reuse
    c.self.inside.passers in
    all_answer X P R _ s c.self.invariant c.args.self.now c.self.view_is _ c.take_in.new.self
    c.take_in.result c.take_in.ensures.happens c.take_in.ensures.causes c.take_in.ensures.says
