use Rattle.bus_deliverylog.proofs.PrefixLaws.{reads_a_prefix}
use Rattle.bus_deliverylog.proofs.laws.reads_a_prefix.Goals as goal

pub returns : goal.returns
returns c = reads_a_prefix
