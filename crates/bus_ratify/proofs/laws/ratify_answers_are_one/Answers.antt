use Rattle.bus_ratify.specs.Scripts.{ratify_script}
use Rattle.bus_ratify.proofs.AnswerLemmas.{one_answer}
use Rattle.bus_ratify.proofs.laws.ratify_answers_are_one.Goals as goal

pub returns : goal.returns
returns c = λ input outcome other text another.
    one_answer c.plays_are_one.ensures (ratify_script input) outcome other text another
