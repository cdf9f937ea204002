use Rattle.bus_logtext.proofs.JournalLemmas.{AreOne, one_answer, one_repair}
use Rattle.bus_logtext.proofs.laws.journal_answers_are_one.Goals as goal

one : (c : goal.After-journals_are_one) → AreOne
one c = record {
  answers = c.journals_are_one.ensures.answers;
  faults = c.journals_are_one.ensures.faults;
  apart = c.journals_are_one.ensures.apart;
}

pub returns-clause-answers : goal.returns-clause-answers
returns-clause-answers c = one_answer (one c)

pub returns-clause-repairs : goal.returns-clause-repairs
returns-clause-repairs c = one_repair (one c)
