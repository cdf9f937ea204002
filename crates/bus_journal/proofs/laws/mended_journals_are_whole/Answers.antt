use Rattle.bus_journal.proofs.AnswerLaws.{is_left, mended}
use Rattle.bus_journal.proofs.laws.mended_journals_are_whole.Goals as goal

pub returns-clause-left : goal.returns-clause-left
returns-clause-left c = is_left

pub returns-clause-whole : goal.returns-clause-whole
returns-clause-whole c = mended
