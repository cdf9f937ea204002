use Rattle.std.proofs.Common.{sym, ◌∙◌}
use Rattle.bus_adoptcommit.proofs.Moves.{outputs_are, same_lists}
use Rattle.bus_adoptcommit.proofs.laws.plays_are_one.Goals as goal

pub returns : goal.returns
returns g c = λ given schedule outs others h k.
    let are = outputs_are g.Q.Machine.op g.Q.Machine.fed g.Q.Ratifier.protocol given schedule in
    same_lists outs others (λ p. are outs h p ∙ sym (are others k p))
