use Rattle.bus_long.proofs.Joining.{first_wanted, last_wanted}
use Rattle.bus_long.proofs.laws.pieces_refuse.Goals as goal

pub returns-clause-first : goal.returns-clause-first
returns-clause-first c = first_wanted

pub returns-clause-last : goal.returns-clause-last
returns-clause-last c = last_wanted
