use Rattle.std.proofs.Common.{refl}
use Rattle.bus_tenure.proofs.Lawful.{turns_fall}
use Rattle.bus_tenure.proofs.laws.elections_are_bounded.Goals as goal

pub returns : goal.returns
returns g c = record {
  starts = λ senders me rounds at. refl;
  falls = λ e got word. turns_fall g.Q.Machine.op g.Q.Machine.fed g.Q.Ratifier.protocol
      g.met.Q.Ratifier.laws g.met.Q.Ratifier.wordless e got word;
}
