use Rattle.bus_batch.proofs.PieceLaws.{nobody_leaves}
use Rattle.bus_batch.proofs.laws.nobody_leaves.Goals as goal

pub returns : goal.returns
returns c = nobody_leaves
