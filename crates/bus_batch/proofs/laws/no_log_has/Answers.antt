use Rattle.bus_batch.proofs.RefusalLaws.{none_after_end, none_after_leaving}
use Rattle.bus_batch.proofs.RefusalLaws.{none_with_head_after_leaving, none_with_another_mark}
use Rattle.bus_batch.proofs.RefusalLaws.{none_with_more_than_a_mark, none_of_same_tenure}
use Rattle.bus_batch.proofs.RefusalLaws.{none_of_stranger, none_of_nothing, none_so_long}
use Rattle.bus_batch.proofs.RefusalLaws.{none_unfillable, none_padded}
use Rattle.bus_batch.proofs.laws.no_log_has.Goals as goal

pub returns-clause-after_end : goal.returns-clause-after_end
returns-clause-after_end c = none_after_end

pub returns-clause-after_leaving : goal.returns-clause-after_leaving
returns-clause-after_leaving c = none_after_leaving

pub returns-clause-head_after_leaving : goal.returns-clause-head_after_leaving
returns-clause-head_after_leaving c = none_with_head_after_leaving

pub returns-clause-same_tenure : goal.returns-clause-same_tenure
returns-clause-same_tenure c = none_of_same_tenure

pub returns-clause-stranger : goal.returns-clause-stranger
returns-clause-stranger c = none_of_stranger

pub returns-clause-nothing : goal.returns-clause-nothing
returns-clause-nothing c = none_of_nothing

pub returns-clause-long : goal.returns-clause-long
returns-clause-long c = none_so_long

pub returns-clause-other_mark : goal.returns-clause-other_mark
returns-clause-other_mark c = none_with_another_mark

pub returns-clause-mark_with_more : goal.returns-clause-mark_with_more
returns-clause-mark_with_more c = none_with_more_than_a_mark

pub returns-clause-unfillable : goal.returns-clause-unfillable
returns-clause-unfillable c = none_unfillable

pub returns-clause-padding : goal.returns-clause-padding
returns-clause-padding c = none_padded
