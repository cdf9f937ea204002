use Rattle.bus_journal.proofs.AnswerLaws.{one_answer}
use Rattle.bus_journal.proofs.HeaderLaws.{one_fault, no_fault}
use Rattle.bus_journal.proofs.laws.journals_are_one.Goals as goal

pub returns-clause-answers : goal.returns-clause-answers
returns-clause-answers c = one_answer

pub returns-clause-faults : goal.returns-clause-faults
returns-clause-faults c = one_fault

pub returns-clause-apart : goal.returns-clause-apart
returns-clause-apart c bytes told a f r refused =
    let j = r.tells.journal in
    no_fault a.heading j.body bytes f j.heading j.bytes_are refused
