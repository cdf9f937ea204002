use Rattle.bus_tenure.specs.Elections.{elections, election_with}
use Rattle.bus_machine.proofs.Bases.Served.{served}
use Rattle.bus_machine.proofs.Calls.Forking.{nothing_forked, kept_forked}
use Rattle.bus_machine.proofs.worlds.World.fork.Goals as goal

pub returns-clause-taken : goal.returns-clause-taken
returns-clause-taken g c =
    let P = g.Q.Ratifier.protocol in
    let X = election_with g.Q.Machine.kind_of g.Q.Machine.op g.Q.Machine.fed P in
    nothing_forked X (elections P c.self.inside.shape.rounds) _ c.args.self.now c.fork_at.new.self
    c.args.receiver c.args.number c.self.view_is c.fork_at.result c.fork_at.ensures.forked

pub returns-clause-keeps : goal.returns-clause-keeps
returns-clause-keeps g c =
    let P = g.Q.Ratifier.protocol in
    let X = election_with g.Q.Machine.kind_of g.Q.Machine.op g.Q.Machine.fed P in
    let shape = c.self.inside.shape in
    let s = served g.Q.Machine.kind_of g.Q.Machine.op g.Q.Machine.fed P
    g.met.Q.Machine.names_each_step g.met.Q.Ratifier.own_kinds shape
    (c.election_is_lawful.ensures.lawful.laws shape.rounds) c.self.inside.reuse
    c.self.inside.passers in
    kept_forked X (elections P shape.rounds) _ c.args.self.now c.fork_at.new.self c.args.receiver
    c.args.number c.self.view_is c.fork_at.result c.fork_at.ensures.forked s c.self.invariant
