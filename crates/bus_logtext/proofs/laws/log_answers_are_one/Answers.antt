use Rattle.bus_logtext.specs.Words.{words_of}
use Rattle.bus_logtext.proofs.AnswerLemmas.{one_answer}
use Rattle.bus_logtext.proofs.laws.log_answers_are_one.Goals as goal

pub returns : goal.returns
returns c = λ most senders input outcome other text another. one_answer (record {
  whole = c.readings_are_exact.ensures.whole;
  good = c.readings_are_exact.ensures.good;
  torn = c.readings_are_exact.ensures.torn;
  first = c.readings_are_exact.ensures.first;
}) most senders (words_of input) outcome other text another
