use Rattle.std.proofs.Common.{subst}
use Rattle.bus_tenure.specs.Elections.{election_with}
use Rattle.bus_core.specs.Causes.{IsCaused}
use Rattle.bus_core.proofs.Caused.{line_is_caused}
use Rattle.bus_core.proofs.cores.SenderCore.has_causes.Goals as goal

pub returns : goal.returns
returns g c =
    let P = g.Q.Ratifier.protocol in
    let X = election_with g.Q.Machine.kind_of g.Q.Machine.op g.Q.Machine.fed P in
    subst (IsCaused X P) c.self.view_is
    (line_is_caused g.Q.Machine.kind_of g.Q.Machine.op g.Q.Machine.fed P
    g.met.Q.Machine.names_each_step g.met.Q.Ratifier.own_kinds g.met.Q.Ratifier.named_for _ _ _
    c.is_kept.ensures c.self.invariant)
