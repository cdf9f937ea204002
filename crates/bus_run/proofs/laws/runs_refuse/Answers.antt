use Rattle.bus_run.proofs.Refusing.{run_refuses}
use Rattle.bus_run.proofs.laws.runs_refuse.Goals as goal

pub returns : goal.returns
returns c = run_refuses
