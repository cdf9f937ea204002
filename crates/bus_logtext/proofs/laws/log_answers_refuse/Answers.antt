use Rattle.std.proofs.Common.{◌++◌, subst, refl}
use Rattle.bus_script.specs.declared.answers.Outcome.TheVariants.{Done, Refused}
use Rattle.bus_batch.specs.Frames.{log_words}
use Rattle.hex.specs.Hex.{decode_pairs}
use Rattle.bus_logtext.specs.Text.{log_text}
use Rattle.bus_logtext.proofs.AnswerLemmas.{Answers, not_told, not_told_bad, not_refused}
use Rattle.bus_logtext.proofs.AnswerLemmas.{no_fuller, no_line_more, none_told, placed, told_so}
use Rattle.bus_logtext.proofs.laws.log_answers_refuse.Goals as goal

pub returns-clause-letter : goal.returns-clause-letter
unfolding decode_pairs
returns-clause-letter c = refl

pub returns-clause-torn : goal.returns-clause-torn
returns-clause-torn c = λ most senders input words text is torn told. not_told (record {
  whole = c.readings_are_exact.ensures.whole;
  good = c.readings_are_exact.ensures.good;
  torn = c.readings_are_exact.ensures.torn;
  first = c.readings_are_exact.ensures.first;
}) most senders words text torn (subst (λ said. Answers most senders said Done text) is told)

pub returns-clause-other : goal.returns-clause-other
returns-clause-other c = λ most senders input text frames limit lawful is told.
    told_so most senders (log_words frames) text frames limit lawful refl
    (subst (λ said. Answers most senders said Done text) is told)

pub returns-clause-bad : goal.returns-clause-bad
returns-clause-bad c = λ most senders place input words text is bad told. not_told_bad (record {
  whole = c.readings_are_exact.ensures.whole;
  good = c.readings_are_exact.ensures.good;
  torn = c.readings_are_exact.ensures.torn;
  first = c.readings_are_exact.ensures.first;
}) most senders place words text bad (subst (λ said. Answers most senders said Done text) is told)

pub returns-clause-line_refused : goal.returns-clause-line_refused
returns-clause-line_refused c = λ most senders input text refusal is told.
    let h = subst (λ said. Answers most senders said Done text) is told in let e = h.0 in absurd cc

pub returns-clause-line_more : goal.returns-clause-line_more
returns-clause-line_more c = λ most senders input line frames limit lawful is some told.
    no_line_more most senders frames line limit lawful some
    (subst (λ said. Answers most senders said Done (log_text frames ++ line)) is told)

pub returns-clause-end_unread : goal.returns-clause-end_unread
returns-clause-end_unread c =
    λ most senders told.
    let e = told.text_is in let none = none_told told.frames told.words_are in absurd cc

pub returns-clause-whole : goal.returns-clause-whole
returns-clause-whole c = λ most senders input text frames lawful is told. not_refused (record {
  whole = c.readings_are_exact.ensures.whole;
  good = c.readings_are_exact.ensures.good;
  torn = c.readings_are_exact.ensures.torn;
  first = c.readings_are_exact.ensures.first;
}) most senders frames text lawful (subst (λ said. Answers most senders said Refused text) is told)

pub returns-clause-place : goal.returns-clause-place
returns-clause-place c = λ most senders place input words text is bad told. placed (record {
  whole = c.readings_are_exact.ensures.whole;
  good = c.readings_are_exact.ensures.good;
  torn = c.readings_are_exact.ensures.torn;
  first = c.readings_are_exact.ensures.first;
}) most senders place words text bad
    (subst (λ said. Answers most senders said Refused text) is told)

pub returns-clause-many : goal.returns-clause-many
returns-clause-many c = λ most senders input text frames limit lawful fuller is told.
    no_fuller most senders frames text limit lawful fuller
    (subst (λ said. Answers most senders said Done text) is told)
