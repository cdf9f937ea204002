use Rattle.bus_adoptcommit.proofs.Two.{own_value_refused, no_commit_refused, unbrought_refused}
use Rattle.bus_adoptcommit.proofs.laws.adopt_commit_refuses.Goals as goal

pub returns : goal.returns
returns c = record {
  own_value = own_value_refused;
  no_commit = no_commit_refused;
  unbrought = unbrought_refused;
}
