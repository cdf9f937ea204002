use Rattle.bus_tenure.specs.Elections.{election_with, layout_with}
use Rattle.bus_automaton.proofs.Beginning.{opens}
use Rattle.bus_automaton.proofs.laws.automaton_opens.Goals as goal

pub returns : goal.returns
returns g c senders rounds rows capacity passers batch reuse bases ok apart has are low =
    let P = g.Q.Ratifier.protocol in
    opens (election_with g.Q.Machine.kind_of g.Q.Machine.op g.Q.Machine.fed P)
    (layout_with P senders rounds rows capacity passers batch) reuse bases ok apart has are low
