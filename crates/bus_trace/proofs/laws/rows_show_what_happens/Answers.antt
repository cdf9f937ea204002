use Rattle.bus_tenure.specs.Elections.{election_with}
use Rattle.bus_trace.proofs.ShowLemmas.{shown, fork_shown}
use Rattle.bus_trace.proofs.laws.rows_show_what_happens.Goals as goal

pub returns-clause-events : goal.returns-clause-events
returns-clause-events g c =
    let P = g.Q.Ratifier.protocol in
    let X = election_with g.Q.Machine.kind_of g.Q.Machine.op g.Q.Machine.fed P in
    λ sizes old event given new. shown sizes X P old event given new

pub returns-clause-forks : goal.returns-clause-forks
returns-clause-forks g c = λ sizes old maker number did new happened.
    fork_shown sizes old maker number did new happened
