use Rattle.bus_run.proofs.PutLemmas.{none_put}
use Rattle.bus_run.proofs.runs.run.Goals as goal

pub run_on-requires-clause-put : goal.run_on-requires-clause-put
run_on-requires-clause-put g c κs within = none_put _ _ _ _ _ c.in_ok-made.ensures.senders
