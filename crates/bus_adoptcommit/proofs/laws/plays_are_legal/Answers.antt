use Rattle.bus_adoptcommit.proofs.LegalPlays.{plays_legal}
use Rattle.bus_adoptcommit.proofs.laws.plays_are_legal.Goals as goal

pub returns : goal.returns
returns g c = λ given schedule outs few play. plays_legal g.Q.Machine.op g.Q.Machine.fed
    g.Q.Ratifier.protocol g.met.Q.Ratifier.laws given few schedule outs play
