use Rattle.bus_walkcoin.proofs.CoinProtocolLaws.{coin_laws}
use Rattle.bus_walkcoin.proofs.laws.coin_is_lawful.Goals as goal

pub returns : goal.returns
returns c = coin_laws
