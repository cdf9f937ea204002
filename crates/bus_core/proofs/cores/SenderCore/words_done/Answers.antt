use Rattle.std.proofs.Common.{sym, ◌∙◌, ap, subst}
use Rattle.bus_tenure.specs.Elections.{Elector, election_with, elections}
use Rattle.bus_core.specs.Plain.{StoresWords, stored_on}
use Rattle.bus_core.specs.Keeping.{sender}
use Rattle.bus_core.specs.Senders.{Sender}
use Rattle.bus_core.proofs.FrameRows.{frame_stored}
use Rattle.bus_core.proofs.Reusing.Laws.{elections_keep}
use Rattle.bus_core.proofs.cores.SenderCore.words_done.Goals as goal

pub returns : goal.returns
returns g c =
    let P = g.Q.Ratifier.protocol in
    let X = election_with g.Q.Machine.kind_of g.Q.Machine.op g.Q.Machine.fed P in
    let law = elections_keep g.Q.Machine.kind_of g.Q.Machine.op g.Q.Machine.fed P
    g.met.Q.Ratifier.laws g.met.Q.Ratifier.wordless in
    let i = c.self.inside in
    let v : Sender (Elector g.row.Q.Denot) = record { core = i.turns; reuse = i.reuse } in
    let stores = subst (λ y. StoresWords X y c.args.many) (sym c.self.view_is) c.requires in
    ap (λ y. sender y i.reuse) c.words_stored.ensures
    ∙ frame_stored X (λ x. (elections P x.rounds).width x.senders)
    (λ x me. (elections P x.rounds).Belongs x.senders me) law v c.self.invariant stores.tenure
    stores.page stores.stored stores.is c.args.many stores.within
    ∙ ap (λ y. stored_on X y c.args.many) c.self.view_is
