use Rattle.std.proofs.Common.{sym, ◌∙◌, ap}
use Rattle.bus_tenure.specs.Elections.{election_with}
use Rattle.bus_tenure.specs.Situations.{situation_of}
use Rattle.bus_core.specs.Senders.{Does}
use Rattle.bus_core.specs.Table.{line}
use Rattle.bus_core.proofs.Situated.{does_by}
use Rattle.bus_core.proofs.Stepped.{wants_own}
use Rattle.bus_core.proofs.cores.SenderCore.wants_word_in.Goals as goal

pub returns-in-Does : goal.returns-in-Does
returns-in-Does g c =
    let X =
    election_with g.Q.Machine.kind_of g.Q.Machine.op g.Q.Machine.fed g.Q.Ratifier.protocol in
    let v = c.self.inside in
    let w = c.args.self.now in
    c.wants_word.ensures
    ∙ sym (wants_own X (record { core = v.turns; reuse = v.reuse }) (situation_of X v.turns))
    ∙ ap (λ y. (line X y (Does (situation_of X y.core))).wants_word) c.self.view_is
    ∙ ap (λ z. (line X w z).wants_word)
    (sym (does_by w.core.layout.passers w.reuse (situation_of X w.core) c.in-Does.field-0
    (c.requires ∙ c.in-Does.is)))
