use Rattle.bus_walkcoin.proofs.CoinAnswerLaws.{coin_step_is_due, coin_kind_is_due}
use Rattle.bus_walkcoin.proofs.laws.coin_steps_as_due.Goals as goal

pub returns-clause-step : goal.returns-clause-step
returns-clause-step c = coin_step_is_due

pub returns-clause-kind : goal.returns-clause-kind
returns-clause-kind c = coin_kind_is_due
