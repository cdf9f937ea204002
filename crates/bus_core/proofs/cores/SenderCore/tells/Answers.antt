use Rattle.std.proofs.Common.{IsSome, sym, subst}
use Rattle.bus_tenure.specs.Elections.{Elector, election_with}
use Rattle.bus_core.specs.Senders.{Sender}
use Rattle.bus_core.specs.Table.{line_now}
use Rattle.bus_core.specs.Telling.{FeedTells}
use Rattle.bus_core.proofs.Caused.{chooses}
use Rattle.bus_core.proofs.Told.{line_told}
use Rattle.bus_core.proofs.cores.SenderCore.tells.Goals as goal

pub returns : goal.returns
returns g c =
    let P = g.Q.Ratifier.protocol in
    let X = election_with g.Q.Machine.kind_of g.Q.Machine.op g.Q.Machine.fed P in
    let i = c.self.inside in
    let v : Sender (Elector g.row.Q.Denot) = record { core = i.turns; reuse = i.reuse } in
    subst (λ y. FeedTells X y c.args.got c.args.word ((line_now X y).answer c.args.got c.args.word))
    c.self.view_is
    (line_told X _ _ v c.args.got c.args.word c.self.invariant
    (chooses g.Q.Machine.kind_of g.Q.Machine.op g.Q.Machine.fed P g.met.Q.Machine.names_each_step
    g.met.Q.Ratifier.own_kinds g.met.Q.Ratifier.named_for i.turns c.is_kept.ensures)
    (subst (λ y. IsSome ((line_now X y).op c.args.word)) (sym c.self.view_is) c.requires))
