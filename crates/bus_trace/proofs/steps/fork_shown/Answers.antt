use Rattle.std.proofs.Common.{◌∙◌, sym}
use Rattle.bus_trace.proofs.StepLemmas.{none_seen, word_seen}
use Rattle.bus_trace.proofs.steps.fork_shown.Goals as goal

pub returns-in_default-clause-seen : goal.returns-in_default-clause-seen
returns-in_default-clause-seen g c =
    let led = c.promises.ensures.happened in
    none_seen c.args.bus.now c.fork.new.self c.args.receiver c.args.number c.in_ok-did.did
    (c.promises.ensures.promised led.0 led.1).by.passes c.in_ok-did.ensures.forked
    (sym c.in_default.is ∙ c.due_of_leaver.ensures)

pub returns-clause-seen : goal.returns-clause-seen
returns-clause-seen g c =
    let led = c.promises.ensures.happened in
    word_seen c.args.bus.now c.fork-2.new.self c.args.receiver c.args.number c.in_ok-did-2.did
    (c.promises.ensures.promised led.0 led.1).by.passes c.in_ok-did-2.ensures.forked c.in-Some.step
    c.register_of-at.result c.standing-found.result c.standing-left.result c.register_of-at.ensures
    c.standing-found.ensures c.standing-left.ensures (sym c.in-Some.is ∙ c.due_of_leaver.ensures)
