use Rattle.bus_deliverylog.proofs.FaultLaws.{none_skips, none_repeats, none_ended}
use Rattle.bus_deliverylog.proofs.FaultLaws.{none_skips_a_leave, none_leaves_early}
use Rattle.bus_deliverylog.proofs.laws.no_prefix_is.Goals as goal

pub returns-clause-skips : goal.returns-clause-skips
returns-clause-skips c = none_skips

pub returns-clause-repeats : goal.returns-clause-repeats
returns-clause-repeats c = none_repeats

pub returns-clause-ended : goal.returns-clause-ended
returns-clause-ended c = none_ended

pub returns-clause-skips_a_leave : goal.returns-clause-skips_a_leave
returns-clause-skips_a_leave c = none_skips_a_leave

pub returns-clause-leaves_early : goal.returns-clause-leaves_early
returns-clause-leaves_early c = none_leaves_early
