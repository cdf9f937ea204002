use Rattle.bus_batch.proofs.RefusalLaws.{put_taken, put_refused, close_taken, close_refused}
use Rattle.bus_batch.proofs.laws.faults_are_exact.Goals as goal

pub returns-clause-taken : goal.returns-clause-taken
returns-clause-taken c = put_taken

pub returns-clause-refused : goal.returns-clause-refused
returns-clause-refused c = put_refused

pub returns-clause-closed : goal.returns-clause-closed
returns-clause-closed c = close_taken

pub returns-clause-kept : goal.returns-clause-kept
returns-clause-kept c = close_refused
