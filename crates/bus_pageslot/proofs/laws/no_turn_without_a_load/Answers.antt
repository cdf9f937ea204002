use Rattle.bus_pageslot.proofs.Hears.ReaderLaws.{no_still_turn, no_still_telling, no_other_telling}
use Rattle.bus_pageslot.proofs.laws.no_turn_without_a_load.Goals as goal

pub returns-clause-turns : goal.returns-clause-turns
returns-clause-turns g c x e answer going within h = no_still_turn x e answer going within h

pub returns-clause-told : goal.returns-clause-told
returns-clause-told g c x e got h = no_still_telling x e got h

pub returns-clause-elsewhere : goal.returns-clause-elsewhere
returns-clause-elsewhere g c x e got word other h = no_other_telling x e got word other h
