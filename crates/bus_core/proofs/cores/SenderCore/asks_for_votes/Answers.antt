use Rattle.bus_core.proofs.Votes.{line_votes}
use Rattle.bus_core.proofs.cores.SenderCore.asks_for_votes.Goals as goal

pub returns : goal.returns
returns g c = line_votes g.Q.Machine.kind_of g.Q.Machine.op g.Q.Machine.fed g.Q.Ratifier.protocol
    g.met.Q.Ratifier.own_kinds c.args.self.now
