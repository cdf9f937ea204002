use Rattle.bus_journal.proofs.AnswerLaws.{none_skipped, none_torn, byte_torn, not_early}
use Rattle.bus_journal.proofs.laws.journals_refuse.Goals as goal

pub returns-clause-skips : goal.returns-clause-skips
returns-clause-skips c = none_skipped

pub returns-clause-damaged : goal.returns-clause-damaged
returns-clause-damaged c = none_torn

pub returns-clause-torn : goal.returns-clause-torn
returns-clause-torn c = byte_torn

pub returns-clause-early : goal.returns-clause-early
returns-clause-early c = not_early
