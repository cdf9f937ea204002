use Rattle.std.proofs.Common.{inr, refl}
use Rattle.clap.proofs.OnLiterals.{clap_on_literals}
use Rattle.bus_commands.proofs.laws.commands_are_met.Goals as goal

pub returns-clause-ratify : goal.returns-clause-ratify
unfolding clap_on_literals
returns-clause-ratify c = refl

pub returns-clause-replay : goal.returns-clause-replay
unfolding clap_on_literals
returns-clause-replay c = refl

pub returns-clause-trace : goal.returns-clause-trace
unfolding clap_on_literals
returns-clause-trace c = (_, refl, (inr refl, inr refl, inr refl))

pub returns-clause-picture : goal.returns-clause-picture
unfolding clap_on_literals
returns-clause-picture c = (_, refl, refl)

pub returns-clause-webpage : goal.returns-clause-webpage
unfolding clap_on_literals
returns-clause-webpage c = (_, refl, (inr refl, refl))

pub returns-clause-play : goal.returns-clause-play
unfolding clap_on_literals
returns-clause-play c = (_, refl, (inr refl, inr refl, refl))

pub returns-clause-run : goal.returns-clause-run
unfolding clap_on_literals
returns-clause-run c = (_, refl, (inr refl, inr refl, refl, refl))

pub returns-clause-run_journal : goal.returns-clause-run_journal
unfolding clap_on_literals
returns-clause-run_journal c = (_, refl, (inr refl, refl))

pub returns-clause-log : goal.returns-clause-log
unfolding clap_on_literals
returns-clause-log c = (_, refl, (refl, refl))

pub returns-clause-log_batch : goal.returns-clause-log_batch
unfolding clap_on_literals
returns-clause-log_batch c = (_, refl, (refl, refl))

pub returns-clause-journal : goal.returns-clause-journal
unfolding clap_on_literals
returns-clause-journal c = (_, refl, inr refl)

pub returns-clause-repair : goal.returns-clause-repair
unfolding clap_on_literals
returns-clause-repair c = (_, refl, refl)
