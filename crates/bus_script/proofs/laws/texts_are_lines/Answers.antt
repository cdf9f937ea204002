use Rattle.std.proofs.Common.{subst}
use Rattle.bus_script.specs.Spelled.{IsText}
use Rattle.bus_script.proofs.TextLemmas.{text_read, text_spelled}
use Rattle.bus_script.proofs.laws.texts_are_lines.Goals as goal

pub returns : goal.returns
returns c = λ text lines. (λ e. subst (IsText text) e (text_spelled text), text_read text lines)
