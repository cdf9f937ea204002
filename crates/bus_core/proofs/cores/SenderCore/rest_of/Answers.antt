use Rattle.std.proofs.Common.{sym, subst}
use Rattle.bus_tenure.specs.Elections.{election_with}
use Rattle.bus_core.specs.Telling.{RestIsTold}
use Rattle.bus_core.proofs.cores.SenderCore.rest_of.Goals as goal

pub returns-clause-tells : goal.returns-clause-tells
returns-clause-tells g c =
    let X =
    election_with g.Q.Machine.kind_of g.Q.Machine.op g.Q.Machine.fed g.Q.Ratifier.protocol in
    subst (RestIsTold X c.args.self.now) (sym c.rest_in.ensures) c.rest_tells.ensures
