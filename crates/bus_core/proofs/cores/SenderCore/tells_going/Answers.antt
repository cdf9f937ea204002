use Rattle.std.proofs.Common.{sym, subst}
use Rattle.bus_tenure.specs.Elections.{Elector, election_with}
use Rattle.bus_tenure.specs.declared.turns.Turn.TheVariants.{Going}
use Rattle.bus_core.specs.Senders.{Sender}
use Rattle.bus_core.specs.Plain.{IsPlain}
use Rattle.bus_core.specs.Telling.{FeedTells}
use Rattle.bus_core.proofs.Caused.{chooses}
use Rattle.bus_core.proofs.Plain.{plain_due, plain_going}
use Rattle.bus_core.proofs.Told.{line_told}
use Rattle.bus_core.proofs.cores.SenderCore.tells_going.Goals as goal

pub returns : goal.returns
returns g c got word =
    let P = g.Q.Ratifier.protocol in
    let X = election_with g.Q.Machine.kind_of g.Q.Machine.op g.Q.Machine.fed P in
    let i = c.self.inside in
    let v : Sender (Elector g.row.Q.Denot) = record { core = i.turns; reuse = i.reuse } in
    let plain = subst (IsPlain X) (sym c.self.view_is) c.requires in
    subst (λ y. FeedTells X y got word Going) c.self.view_is
    (subst (FeedTells X v got word) (plain_going X v plain got word)
    (line_told X _ _ v got word c.self.invariant
    (chooses g.Q.Machine.kind_of g.Q.Machine.op g.Q.Machine.fed P g.met.Q.Machine.names_each_step
    g.met.Q.Ratifier.own_kinds g.met.Q.Ratifier.named_for i.turns c.is_kept.ensures)
    (plain_due X v plain word)))
