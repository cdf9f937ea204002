use Rattle.std.proofs.Common.{IfSome, refl, subst}
use Rattle.bus_register.specs.Words.{register}
use Rattle.bus_tenure.specs.Elections.{Elector, election_with}
use Rattle.bus_core.specs.Places.{LiesAt}
use Rattle.bus_core.specs.Senders.{Sender, situation}
use Rattle.bus_core.specs.Table.{line_now}
use Rattle.bus_core.proofs.Lying.{line_lies, electing_below}
use Rattle.bus_tenure.proofs.Rows.{place_lies}
use Rattle.bus_core.proofs.cores.SenderCore.lies.Goals as goal

pub returns : goal.returns
returns g c =
    let P = g.Q.Ratifier.protocol in
    let X = election_with g.Q.Machine.kind_of g.Q.Machine.op g.Q.Machine.fed P in
    let i = c.self.inside in
    let v : Sender (Elector g.row.Q.Denot) = record { core = i.turns; reuse = i.reuse } in
    subst (λ y. IfSome ((line_now X y).op c.args.word) (λ o. LiesAt y (situation X y) (register o)))
    c.self.view_is
    (line_lies X _ _ v c.self.invariant (electing_below _ _ i.turns c.is_kept.ensures)
    (λ t e at word. place_lies g.Q.Machine.op g.Q.Machine.fed P g.met.Q.Ratifier.laws
    g.met.Q.Ratifier.wordless i.turns.layout.rounds i.turns.layout.senders i.turns.me i.turns
    i.turns refl c.is_kept.ensures t t e refl at word _ refl) c.args.word)
