use Rattle.bus_batch.proofs.FrameLaws.{spells_one}
use Rattle.bus_batch.proofs.laws.spells_one.Goals as goal

pub returns : goal.returns
returns c = spells_one
