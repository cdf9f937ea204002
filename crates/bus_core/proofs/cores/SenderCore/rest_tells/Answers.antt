use Rattle.std.proofs.Common.{subst}
use Rattle.bus_tenure.specs.Elections.{Elector, election_with}
use Rattle.bus_core.specs.Senders.{Sender}
use Rattle.bus_core.specs.Table.{line_now, rest_at}
use Rattle.bus_core.specs.Telling.{RestIsTold}
use Rattle.bus_core.proofs.Told.{rest_told}
use Rattle.bus_core.proofs.cores.SenderCore.rest_tells.Goals as goal

pub returns : goal.returns
returns g c =
    let P = g.Q.Ratifier.protocol in
    let X = election_with g.Q.Machine.kind_of g.Q.Machine.op g.Q.Machine.fed P in
    let i = c.self.inside in
    let v : Sender (Elector g.row.Q.Denot) = record { core = i.turns; reuse = i.reuse } in
    subst (λ y. RestIsTold X y (rest_at (line_now X y))) c.self.view_is
    (rest_told X _ _ v c.self.invariant)
