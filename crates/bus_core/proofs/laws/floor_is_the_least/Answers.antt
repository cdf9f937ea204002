use Rattle.bus_core.proofs.LeastPassed.{gives_floor}
use Rattle.bus_core.proofs.laws.floor_is_the_least.Goals as goal

pub returns : goal.returns
returns g c core tenure page stored published places holds some all =
    gives_floor core tenure page stored published places holds some all
