use Rattle.bus_logtext.proofs.AnswerLemmas.{printed_told}
use Rattle.bus_logtext.proofs.laws.printed_logs_are_told.Goals as goal

pub returns : goal.returns
returns c = printed_told
