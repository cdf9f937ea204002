use Rattle.std.proofs.Common.{arith}
use Rattle.bus_script.specs.Grammar.{script_lines}
use Rattle.bus_logtext.proofs.LineLemmas.{lines_spelled, lines_read}
use Rattle.bus_logtext.proofs.laws.inputs_are_words.Goals as goal

pub returns : goal.returns
returns c = λ input words. (
  λ e.
      let k = lines_spelled 0 (script_lines input) words (omega arith) e in
      (k.0, omega (arith, k.1)),
  λ h. lines_read 0 (script_lines input) words h.0 (omega (arith, h.1)),
)
