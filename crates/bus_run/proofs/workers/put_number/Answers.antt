use Rattle.std.proofs.Common.{◌++◌, ◌∷◌, [], sym, ap, ◌∙◌}
use Rattle.bus_automaton.specs.ThreeWordBuses.{process}
use Rattle.bus_run.proofs.WaitLemmas.{taken_waits}
use Rattle.bus_run.proofs.workers.put_number.Goals as goal

pub returns-then-next_number-lt-MOST_MESSAGES_EACH-clause-taken :
    goal.returns-then-next_number-lt-MOST_MESSAGES_EACH-clause-taken
returns-then-next_number-lt-MOST_MESSAGES_EACH-clause-taken c is =
    let old = c.args.sender.now.core in
    taken_waits c.put.result old c.put.new.self.core c.to_be_bytes.result c.put.ensures.taken
    (sym c.is_ok.ensures.value ∙ is)
    ∙ ap (λ z. (process.queue old).messages ++ z ∷ []) c.to_be_bytes.ensures
