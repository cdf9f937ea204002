use Rattle.std.proofs.Common.{sym, ◌∙◌, ap}
use Rattle.bus_tenure.specs.Elections.{election_with}
use Rattle.bus_tenure.specs.Situations.{situation_of}
use Rattle.bus_core.specs.Table.{line}
use Rattle.bus_core.proofs.Situated.{does_by, doing_by}
use Rattle.bus_core.proofs.cores.SenderCore.kind_in.Goals as goal

pub returns-in-Does : goal.returns-in-Does
returns-in-Does g c =
    let X =
    election_with g.Q.Machine.kind_of g.Q.Machine.op g.Q.Machine.fed g.Q.Ratifier.protocol in
    let v = c.args.self.now in
    c.own_kind.ensures
    ∙ ap (λ z. (line X v z).kind)
    (sym (does_by v.core.layout.passers v.reuse (situation_of X v.core) c.in-Does.doing
    (c.requires ∙ c.in-Does.is)))

pub own_kind-requires : goal.own_kind-requires
own_kind-requires g c =
    let X =
    election_with g.Q.Machine.kind_of g.Q.Machine.op g.Q.Machine.fed g.Q.Ratifier.protocol in
    let v = c.args.self.now in
    doing_by v.core.layout.passers v.reuse (situation_of X v.core) c.in-Does.doing
    (c.requires ∙ c.in-Does.is)
