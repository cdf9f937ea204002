use Rattle.std.proofs.Common.{◌≡◌, ◌+◌, sym, ◌∙◌, ap, subst}
use Rattle.bus_tenure.specs.Core.{cell_of}
use Rattle.bus_tenure.specs.Elections.{Elector, election_with}
use Rattle.bus_core.specs.Keeping.{IsAway}
use Rattle.bus_core.specs.Plain.{StoresPlain}
use Rattle.bus_core.specs.Senders.{Sender, log_start}
use Rattle.bus_core.proofs.Plain.{away_word, word_stores}
use Rattle.bus_core.proofs.cores.SenderCore.stores_word.Goals as goal

pub returns-clause-stores : goal.returns-clause-stores
returns-clause-stores g c is =
    let X =
    election_with g.Q.Machine.kind_of g.Q.Machine.op g.Q.Machine.fed g.Q.Ratifier.protocol in
    let i = c.self.inside in
    let v : Sender (Elector g.row.Q.Denot) = record { core = i.turns; reuse = i.reuse } in
    let away = subst (λ (y : Sender (Elector g.row.Q.Denot)). IsAway y.reuse) (sym c.self.view_is)
    c.requires in
    let place = c.stores_word.new.below + c.stores_word.new.behind in
    let here : c.log_word.result
    ≡ log_start i.turns.layout i.reuse + cell_of i.turns.layout place =
    c.log_word.ensures.at
    ∙ ap (λ (y : Sender (Elector g.row.Q.Denot)).
    log_start y.core.layout y.reuse + cell_of y.core.layout place)
    (sym c.self.view_is) in
    subst (λ y. StoresPlain X y c.log_word.result c.frame_word.result) c.self.view_is
    (word_stores X v _ _ _ (c.stores_word.ensures.word c.if-not-stores_word.false)
    (λ page. away_word i.turns.layout.passers i.reuse away _ page _)
    c.log_word.result here c.frame_word.result c.frame_word.ensures.word
    c.frame_word.ensures.room c.frame_word.ensures.below)
