use Rattle.std.proofs.Common.{sym, ◌∙◌, ap}
use Rattle.bus_tenure.specs.Elections.{election_with}
use Rattle.bus_tenure.specs.Situations.{situation_of}
use Rattle.bus_core.specs.Doings.{rest_of}
use Rattle.bus_core.specs.Table.{line, rest_at}
use Rattle.bus_core.proofs.Situated.{does_by, doing_by}
use Rattle.bus_core.proofs.Stepped.{rests_own}
use Rattle.bus_core.proofs.cores.SenderCore.rest_in.Goals as goal

pub returns-in-Does : goal.returns-in-Does
returns-in-Does g c =
    let X =
    election_with g.Q.Machine.kind_of g.Q.Machine.op g.Q.Machine.fed g.Q.Ratifier.protocol in
    let v = c.args.self.now in
    let n = v.core.layout.passers in
    let z = situation_of X v.core in
    let told = c.requires ∙ c.in-Does.is in
    c.rest_of.ensures ∙ ap rest_of (sym (doing_by n v.reuse z c.in-Does.doing told))
    ∙ sym (rests_own X v z)
    ∙ ap (λ y. rest_at (line X v y)) (sym (does_by n v.reuse z c.in-Does.doing told))
