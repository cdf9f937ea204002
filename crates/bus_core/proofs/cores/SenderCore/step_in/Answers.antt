use Rattle.std.proofs.Common.{sym, ◌∙◌, ap}
use Rattle.bus_tenure.specs.Elections.{election_with}
use Rattle.bus_tenure.specs.Situations.{situation_of}
use Rattle.bus_core.specs.Table.{line}
use Rattle.bus_core.proofs.Situated.{does_by, doing_by}
use Rattle.bus_core.proofs.Stepped.{reclaimed_some}
use Rattle.bus_core.proofs.cores.SenderCore.step_in.Goals as goal

pub returns-in-Does-clause-step : goal.returns-in-Does-clause-step
returns-in-Does-clause-step g c =
    let X =
    election_with g.Q.Machine.kind_of g.Q.Machine.op g.Q.Machine.fed g.Q.Ratifier.protocol in
    let v = c.args.self.now in
    c.own_step.ensures.step
    ∙ ap (λ z. (line X v z).op c.args.word)
    (sym (does_by v.core.layout.passers v.reuse (situation_of X v.core) c.in-Does.doing
    (c.requires ∙ c.in-Does.is)))

pub returns-in-Scans-clause-below : goal.returns-in-Scans-clause-below
returns-in-Scans-clause-below g c = reclaimed_some _ _ _ _ c.self.view_is c.self.inside.reuse
    c.self.invariant _ c.reclaimer_step.ensures

pub own_step-requires : goal.own_step-requires
own_step-requires g c =
    let X =
    election_with g.Q.Machine.kind_of g.Q.Machine.op g.Q.Machine.fed g.Q.Ratifier.protocol in
    let v = c.args.self.now in
    doing_by v.core.layout.passers v.reuse (situation_of X v.core) c.in-Does.doing
    (c.requires ∙ c.in-Does.is)
