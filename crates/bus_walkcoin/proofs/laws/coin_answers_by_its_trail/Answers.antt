use Rattle.bus_walkcoin.proofs.CoinAnswerLaws.{coin_answers}
use Rattle.bus_walkcoin.proofs.laws.coin_answers_by_its_trail.Goals as goal

pub returns : goal.returns
returns c = coin_answers
