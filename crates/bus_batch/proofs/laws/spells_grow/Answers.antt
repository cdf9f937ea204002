use Rattle.bus_batch.proofs.FrameLaws.{spells_none, spells_more}
use Rattle.bus_batch.proofs.laws.spells_grow.Goals as goal

pub returns-clause-none : goal.returns-clause-none
returns-clause-none c = spells_none

pub returns-clause-more : goal.returns-clause-more
returns-clause-more c = spells_more
