use Rattle.std.proofs.Common.{map, ap, ◌∙◌, sym, subst}
use Rattle.bus_tenure.specs.Elections.{elections, election_with}
use Rattle.bus_machine.proofs.Bases.Served.{served}
use Rattle.bus_machine.proofs.Calls.Held.{took}
use Rattle.bus_machine.specs.Promise.{TakersTold}
use Rattle.bus_machine.proofs.worlds.World.owners.Goals as goal

pub returns-clause-took : goal.returns-clause-took
returns-clause-took g c trails reached =
    let P = g.Q.Ratifier.protocol in
    let X = election_with g.Q.Machine.kind_of g.Q.Machine.op g.Q.Machine.fed P in
    let shape = c.self.inside.shape in
    let R = elections P shape.rounds in
    let s = served g.Q.Machine.kind_of g.Q.Machine.op g.Q.Machine.fed P
    g.met.Q.Machine.names_each_step g.met.Q.Ratifier.own_kinds shape
    (c.election_is_lawful.ensures.lawful.laws shape.rounds) c.self.inside.reuse
    c.self.inside.passers in
    subst (λ o. TakersTold c.args.self.now.reuse o trails.actions)
    (sym (ap (map (λ s. s.0)) c.as_slice.ensures.value ∙ ap (λ y. y.owners) c.self.view_is))
    (took X P R _ s c.self.invariant c.args.self.now c.self.view_is trails reached)
