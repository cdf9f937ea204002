use Rattle.bus_tenure.specs.Elections.{elections, election_with, layout_with}
use Rattle.bus_world.proofs.Serving.{serves}
use Rattle.bus_automaton.proofs.Owed.{automaton_laws}
use Rattle.bus_automaton.proofs.laws.automaton_is_lawful.Goals as goal

pub returns : goal.returns
returns g c senders rounds rows capacity passers batch reuse bases apart =
    let P = g.Q.Ratifier.protocol in
    let X = election_with g.Q.Machine.kind_of g.Q.Machine.op g.Q.Machine.fed P in
    let s = serves g.Q.Machine.kind_of g.Q.Machine.op g.Q.Machine.fed P
    g.met.Q.Machine.names_each_step g.met.Q.Ratifier.own_kinds senders rounds rows capacity passers
    batch
    (c.election_is_lawful.ensures.lawful.laws rounds) in
    automaton_laws X (elections P rounds) (layout_with P senders rounds rows capacity passers
    batch) s
    reuse bases apart
