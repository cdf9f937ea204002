use Rattle.bus_deliverylog.proofs.Merging.{item_joins, mark_joins, items_are, marks_stand}
use Rattle.bus_deliverylog.proofs.laws.merged_is_one_list.Goals as goal

pub returns-clause-item_joins : goal.returns-clause-item_joins
returns-clause-item_joins c = item_joins

pub returns-clause-mark_joins : goal.returns-clause-mark_joins
returns-clause-mark_joins c = mark_joins

pub returns-clause-items_are : goal.returns-clause-items_are
returns-clause-items_are c = items_are

pub returns-clause-marks_stand : goal.returns-clause-marks_stand
returns-clause-marks_stand c = marks_stand
