use Rattle.bus_batch.proofs.PieceLaws.{entries_are_items}
use Rattle.bus_batch.proofs.laws.entries_are_items.Goals as goal

pub returns : goal.returns
returns c = entries_are_items
