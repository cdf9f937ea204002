use Rattle.std.proofs.lemmas.Result.{IfOk-weaker}
use Rattle.bus_ratify.proofs.PlayLemmas.{played}
use Rattle.bus_ratify.proofs.answers.play.Goals as goal

pub returns : goal.returns
returns c =
    IfOk-weaker c.verdicts.result _ _
    (λ verdicts told. played c.args.script.now.inputs.items c.args.script.now.schedule.items
    verdicts.items (rw (c.deref.ensures.value, c.deref-2.ensures.value) at told))
    c.verdicts.ensures
