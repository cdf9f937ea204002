use Rattle.bus_logtext.proofs.LineLemmas.{line_spelled, line_read}
use Rattle.bus_logtext.proofs.laws.lines_are_words.Goals as goal

pub returns : goal.returns
returns c = λ line word. (line_spelled line word, line_read line word)
