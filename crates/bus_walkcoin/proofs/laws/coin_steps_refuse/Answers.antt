use Rattle.bus_walkcoin.proofs.CoinAnswerLaws.{refuses_steps}
use Rattle.bus_walkcoin.proofs.laws.coin_steps_refuse.Goals as goal

pub returns : goal.returns
returns c = refuses_steps
