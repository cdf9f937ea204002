use Rattle.bus_trace.proofs.NameLemmas.{named}
use Rattle.bus_trace.proofs.laws.words_have_their_names.Goals as goal

pub returns : goal.returns
returns g c = named g.Q.Ratifier.protocol
