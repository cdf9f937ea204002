use Rattle.bus_coinconc.proofs.ConciliatorAnswers.{conciliator_step_is_due, conciliator_kind_is_due}
use Rattle.bus_coinconc.proofs.laws.conciliator_steps_as_due.Goals as goal

pub returns-clause-step : goal.returns-clause-step
returns-clause-step c = conciliator_step_is_due

pub returns-clause-kind : goal.returns-clause-kind
returns-clause-kind c = conciliator_kind_is_due
