use Rattle.bus_ratify.proofs.LineLemmas.{inputs_spelled, inputs_read, steps_spelled, steps_read}
use Rattle.bus_ratify.proofs.laws.lines_are_spelled.Goals as goal

pub returns : goal.returns
returns c = record {
  inputs = λ line inputs. (inputs_spelled line inputs, inputs_read line inputs);
  steps = λ line numbers. (steps_spelled line numbers, steps_read line numbers);
}
