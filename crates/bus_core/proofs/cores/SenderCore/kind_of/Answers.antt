use Rattle.std.proofs.Common.{sym, ◌∙◌}
use Rattle.bus_core.proofs.Caused.{caused_for}
use Rattle.bus_core.proofs.cores.SenderCore.kind_of.Goals as goal

pub returns-clause-cause : goal.returns-clause-cause
returns-clause-cause g c = caused_for g.Q.Ratifier.protocol c.args.self.now _
    (λ k e. c.has_causes.ensures k (sym c.kind_in.ensures ∙ e))
