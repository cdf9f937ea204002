use Rattle.bus_pageslot.proofs.Hears.OneAnswer.{hears_adds}
use Rattle.bus_pageslot.proofs.receiving_laws.each_turn_adds_one_answer.Goals as goal

pub returns-clause-adds : goal.returns-clause-adds
returns-clause-adds g c x e answer m going within h = hears_adds x e answer m going within h

pub returns-clause-ended : goal.returns-clause-ended
returns-clause-ended g c x e answer m over h = h.ended over
