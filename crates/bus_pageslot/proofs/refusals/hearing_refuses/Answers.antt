use Rattle.bus_pageslot.proofs.Hears.ReaderLaws.{turns_refuse}
use Rattle.bus_pageslot.proofs.refusals.hearing_refuses.Goals as goal

pub returns : goal.returns
returns g c x e going = turns_refuse x e going
