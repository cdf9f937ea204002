use Rattle.std.proofs.Common.{◌∙◌, ap}
use Rattle.bus_script.specs.Grammar.{number_of}
use Rattle.bus_script.proofs.SpelledLaws.{number_spelled, number_read}
use Rattle.bus_script.proofs.laws.numbers_are_decimal.Goals as goal

pub returns : goal.returns
returns c = λ word n. (number_spelled word n, λ h. ap number_of h.0 ∙ number_read n h.1)
