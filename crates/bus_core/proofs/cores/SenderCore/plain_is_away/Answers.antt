use Rattle.std.proofs.Common.{sym, subst}
use Rattle.bus_tenure.specs.Elections.{Elector, election_with}
use Rattle.bus_core.specs.Keeping.{IsAway}
use Rattle.bus_core.specs.Plain.{IsPlain}
use Rattle.bus_core.specs.Senders.{Sender}
use Rattle.bus_core.proofs.Plain.{plain_away}
use Rattle.bus_core.proofs.cores.SenderCore.plain_is_away.Goals as goal

pub returns : goal.returns
returns g c plain =
    let X =
    election_with g.Q.Machine.kind_of g.Q.Machine.op g.Q.Machine.fed g.Q.Ratifier.protocol in
    let i = c.self.inside in
    let v : Sender (Elector g.row.Q.Denot) = record { core = i.turns; reuse = i.reuse } in
    subst (λ (y : Sender (Elector g.row.Q.Denot)). IsAway y.reuse) c.self.view_is
    (plain_away X v _ _ c.self.invariant (subst (IsPlain X) (sym c.self.view_is) plain))
