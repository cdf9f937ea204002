use Rattle.bus_long.proofs.Cutting.{begun_idle, whole_idle}
use Rattle.bus_long.proofs.Joining.{all_joined, first_joined, last_joined}
use Rattle.bus_long.proofs.laws.pieces_are_joined.Goals as goal

pub returns-clause-all : goal.returns-clause-all
returns-clause-all c = all_joined

pub returns-clause-first : goal.returns-clause-first
returns-clause-first c = first_joined

pub returns-clause-last : goal.returns-clause-last
returns-clause-last c = last_joined

pub returns-clause-idle : goal.returns-clause-idle
returns-clause-idle c = λ b message idle. (whole_idle b message idle, begun_idle b message idle)
