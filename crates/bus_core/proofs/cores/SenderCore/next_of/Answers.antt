use Rattle.std.proofs.Common.{IfSome, sym, subst}
use Rattle.bus_register.specs.Words.{register}
use Rattle.bus_tenure.specs.Elections.{election_with}
use Rattle.bus_core.specs.Places.{LiesAt}
use Rattle.bus_core.specs.Senders.{situation}
use Rattle.bus_core.proofs.cores.SenderCore.next_of.Goals as goal

pub returns-clause-lies : goal.returns-clause-lies
returns-clause-lies g c =
    let X =
    election_with g.Q.Machine.kind_of g.Q.Machine.op g.Q.Machine.fed g.Q.Ratifier.protocol in
    let v = c.args.self.now in
    subst (λ o. IfSome o (λ o. LiesAt v (situation X v) (register o))) (sym c.step_in.ensures.step)
    c.lies.ensures
