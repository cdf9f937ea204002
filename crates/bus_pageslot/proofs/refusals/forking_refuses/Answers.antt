use Rattle.bus_pageslot.proofs.Hears.ForkingRefused.{forks_refuse}
use Rattle.bus_pageslot.proofs.refusals.forking_refuses.Goals as goal

pub returns : goal.returns
returns g c x e number some = forks_refuse x e number some
