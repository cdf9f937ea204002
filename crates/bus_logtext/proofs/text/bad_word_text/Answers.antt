use Rattle.std.proofs.Common.{rules, append_assoc}
use Rattle.bus_logtext.proofs.text.bad_word_text.Goals as goal

pub returns : goal.returns
returns c = search (rules, append_assoc)
