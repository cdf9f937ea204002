use Rattle.bus_tenure.proofs.Fitting.{goes_by_floor}
use Rattle.bus_tenure.proofs.laws.room_goes_by_the_floor.Goals as goal

pub returns : goal.returns
returns g c = goes_by_floor
