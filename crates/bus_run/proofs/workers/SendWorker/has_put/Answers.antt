use Rattle.std.proofs.Common.{sym, ◌∙◌}
use Rattle.std.proofs.lemmas.Bool.{eqb-false}
use Rattle.bus_run.proofs.ToldLemmas.{same_many}
use Rattle.bus_run.proofs.workers.SendWorker.has_put.Goals as goal

pub returns-then-pending-eq0-clause-not_all : goal.returns-then-pending-eq0-clause-not_all
returns-then-pending-eq0-clause-not_all g c = λ other sent. eqb-false c.args.self.now.put
    c.args.messages other
    (same_many c.args.self.now.put c.args.messages (sym c.args.self.now.has_put ∙ sent.1))
