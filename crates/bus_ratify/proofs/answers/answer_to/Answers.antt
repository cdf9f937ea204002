use Rattle.bus_ratify.proofs.PlayLemmas.{script_known}
use Rattle.bus_ratify.proofs.answers.answer_to.Goals as goal

pub play-requires-clause-known : goal.play-requires-clause-known
play-requires-clause-known c = script_known c.args.input.now _ c.in-Ok.ensures
