use Rattle.std.proofs.Common.{subst}
use Rattle.bus_tenure.specs.Elections.{ElectorKeeps, elections}
use Rattle.bus_tenure.specs.Keeping.{SenderInvariant}
use Rattle.bus_tenure.proofs.turning.Turns.is_kept.Goals as goal

pub returns : goal.returns
returns g c =
    let P = g.Q.Ratifier.protocol in
    subst (λ z. SenderInvariant ((elections P z.layout.rounds).width z.layout.senders)
    (ElectorKeeps P z.layout.rounds z.layout.senders z.me) z) c.self.view_is c.self.invariant
