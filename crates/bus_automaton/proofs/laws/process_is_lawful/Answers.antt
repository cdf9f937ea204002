use Rattle.bus_tenure.specs.Elections.{elections, election_with}
use Rattle.bus_world.proofs.Serving.{serves}
use Rattle.bus_automaton.proofs.Turns.{process_laws}
use Rattle.bus_automaton.proofs.laws.process_is_lawful.Goals as goal

pub returns : goal.returns
returns g c =
    let P = g.Q.Ratifier.protocol in
    let X = election_with g.Q.Machine.kind_of g.Q.Machine.op g.Q.Machine.fed P in
    let law = c.election_is_lawful.ensures.lawful.laws 0 in
    process_laws X (elections P 0) law (serves g.Q.Machine.kind_of g.Q.Machine.op g.Q.Machine.fed P
    g.met.Q.Machine.names_each_step g.met.Q.Ratifier.own_kinds 0 0 0 0 0 0 law).named
