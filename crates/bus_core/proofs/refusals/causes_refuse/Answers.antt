use Rattle.bus_core.proofs.CausesRefused.{refused}
use Rattle.bus_core.proofs.refusals.causes_refuse.Goals as goal

pub returns : goal.returns
returns g c sender = refused g.Q.Ratifier.protocol sender
