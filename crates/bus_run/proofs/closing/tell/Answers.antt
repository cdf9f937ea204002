use Rattle.std.proofs.Common.{refl}
use Rattle.bus_run.proofs.LeftLemmas.{one_learnt}
use Rattle.bus_run.proofs.ToldLemmas.{told_now}
use Rattle.bus_run.proofs.WaitLemmas.{none_waits}
use Rattle.bus_automaton.specs.ThreeWordBuses.{process}
use Rattle.bus_run.specs.Left.{number_of}
use Rattle.bus_run.proofs.closing.tell.Goals as goal

pub returns-clause-learnt : goal.returns-clause-learnt
returns-clause-learnt g c = one_learnt _ _ _ c.told.ensures.told.learns

pub returns-clause-told : goal.returns-clause-told
returns-clause-told g c = told_now process c.args.send_worker.sender.core _ _ _
    (number_of c.args.send_worker.sender) c.args.messages c.told.ensures.told.sent refl
    (none_waits c.args.send_worker.sender.core c.requires.sent.0) c.requires.sent.1
