use Rattle.bus_batch.proofs.Standing.{not_in_nothing, not_at_no_end, not_before_the_end}
use Rattle.bus_batch.proofs.laws.standing_refuses.Goals as goal

pub returns-clause-nothing_left : goal.returns-clause-nothing_left
returns-clause-nothing_left c = not_in_nothing

pub returns-clause-no_end : goal.returns-clause-no_end
returns-clause-no_end c = not_at_no_end

pub returns-clause-past_end : goal.returns-clause-past_end
returns-clause-past_end c = not_before_the_end
