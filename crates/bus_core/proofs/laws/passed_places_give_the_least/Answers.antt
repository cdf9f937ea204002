use Rattle.bus_core.proofs.LeastPassed.{gives_least}
use Rattle.bus_core.proofs.laws.passed_places_give_the_least.Goals as goal

pub returns : goal.returns
returns c passing places = gives_least passing places
