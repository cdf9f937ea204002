use Rattle.bus_journal.proofs.Words.{sealed_is}
use Rattle.bus_journal.proofs.bytes.sealed.Goals as goal

pub returns : goal.returns
returns c bytes e = sealed_is c.args.digest bytes e
