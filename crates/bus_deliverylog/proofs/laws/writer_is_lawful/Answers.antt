use Rattle.bus_deliverylog.proofs.WritingSteps.{stored_none, stored_more, raises, raises_whole}
use Rattle.bus_deliverylog.proofs.laws.writer_is_lawful.Goals as goal

pub returns-clause-starts : goal.returns-clause-starts
returns-clause-starts c = stored_none

pub returns-clause-steps : goal.returns-clause-steps
returns-clause-steps c = stored_more

pub returns-clause-raises : goal.returns-clause-raises
returns-clause-raises c = raises

pub returns-clause-whole : goal.returns-clause-whole
returns-clause-whole c = raises_whole
