use Rattle.bus_receiver.proofs.HearingLaws.{counts_each, counts_items, notes_leaves}
use Rattle.bus_receiver.proofs.laws.counts_what_it_takes.Goals as goal

pub returns-clause-each : goal.returns-clause-each
returns-clause-each c = counts_each

pub returns-clause-all : goal.returns-clause-all
returns-clause-all c = counts_items

pub returns-clause-left : goal.returns-clause-left
returns-clause-left c = notes_leaves
