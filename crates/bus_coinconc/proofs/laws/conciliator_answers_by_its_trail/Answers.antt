use Rattle.bus_coinconc.proofs.ConciliatorAnswers.{conciliator_answers}
use Rattle.bus_coinconc.proofs.laws.conciliator_answers_by_its_trail.Goals as goal

pub returns : goal.returns
returns c = conciliator_answers
