use Rattle.bus_walkcoin.proofs.CoinAnswerLaws.{refuses_early_answers}
use Rattle.bus_walkcoin.proofs.laws.coin_refuses.Goals as goal

pub returns : goal.returns
returns c = refuses_early_answers
