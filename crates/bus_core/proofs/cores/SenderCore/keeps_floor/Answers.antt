use Rattle.std.proofs.Common.{subst}
use Rattle.bus_tenure.specs.Elections.{Elector, election_with}
use Rattle.bus_core.specs.Loading.{KeepsFloor}
use Rattle.bus_core.specs.Senders.{Sender}
use Rattle.bus_core.specs.Table.{line_now}
use Rattle.bus_core.proofs.LeastPassed.{line_keeps_floor}
use Rattle.bus_core.proofs.cores.SenderCore.keeps_floor.Goals as goal

pub returns : goal.returns
returns g c =
    let P = g.Q.Ratifier.protocol in
    let X = election_with g.Q.Machine.kind_of g.Q.Machine.op g.Q.Machine.fed P in
    let i = c.self.inside in
    let v : Sender (Elector g.row.Q.Denot) = record { core = i.turns; reuse = i.reuse } in
    subst (λ y. KeepsFloor X y c.args.got ((line_now X y).fed c.args.got c.args.word))
    c.self.view_is (line_keeps_floor X v _ _ c.args.got c.args.word c.is_kept.ensures)
