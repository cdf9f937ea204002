use Rattle.bus_walkcoin.proofs.CoinAnswerLaws.{coin_goes_on}
use Rattle.bus_walkcoin.proofs.laws.coin_goes_on_until_answered.Goals as goal

pub returns : goal.returns
returns c = coin_goes_on
