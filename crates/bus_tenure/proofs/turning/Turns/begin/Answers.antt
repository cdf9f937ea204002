use Rattle.std.proofs.Common.{sym, ap, subst}
use Rattle.bus_batch.specs.Batches.{HasSomething}
use Rattle.bus_tenure.proofs.Looking.{looks_at_rest}
use Rattle.bus_tenure.proofs.turning.Turns.begin.Goals as goal

pub begin-requires-clause-something : goal.begin-requires-clause-something
begin-requires-clause-something g c =
    subst HasSomething (sym (ap (λ z. z.queue) c.self.view_is))
    (looks_at_rest c.args.self.now c.requires.rests c.requires.looks).something
