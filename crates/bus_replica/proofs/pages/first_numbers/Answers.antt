use Rattle.std.proofs.Common.{refl, arith, rules}
use Rattle.bus_replica.proofs.pages.first_numbers.Goals as goal

pub loop-sender-init : goal.loop-sender-init
loop-sender-init c = record {
  long = search rules;
  noted = λ sender low. absurd (omega (arith, low));
  others = λ sender from low. refl;
}
