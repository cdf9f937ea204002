use Rattle.bus_deliverylog.proofs.PassLaws.{ends_there, due_there, once_there}
use Rattle.bus_deliverylog.proofs.PassLaws.{same_kind, same_op}
use Rattle.bus_deliverylog.proofs.ReceiveLaws.{no_due}
use Rattle.bus_deliverylog.proofs.laws.passes_where_a_frame_ends.Goals as goal

pub returns-clause-ends : goal.returns-clause-ends
returns-clause-ends c = ends_there

pub returns-clause-due : goal.returns-clause-due
returns-clause-due c = due_there

pub returns-clause-one : goal.returns-clause-one
returns-clause-one c v frames words pieces pieces' had had' senders = (
  same_kind v frames words pieces pieces' had had' senders,
  same_op v frames words pieces pieces' had had' senders,
)

pub returns-clause-once : goal.returns-clause-once
returns-clause-once c = once_there

pub returns-clause-never : goal.returns-clause-never
returns-clause-never c = no_due
