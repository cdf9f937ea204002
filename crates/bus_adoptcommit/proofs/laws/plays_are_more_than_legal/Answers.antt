use Rattle.bus_adoptcommit.proofs.Two.{commits_legal, commits_refused}
use Rattle.bus_adoptcommit.proofs.laws.plays_are_more_than_legal.Goals as goal

pub returns : goal.returns
returns c = record { legal = commits_legal; refused = commits_refused }
