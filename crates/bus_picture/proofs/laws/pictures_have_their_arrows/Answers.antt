use Rattle.bus_picture.proofs.ArrowLaws.{have_arrows}
use Rattle.bus_picture.proofs.laws.pictures_have_their_arrows.Goals as goal

pub returns : goal.returns
returns c = have_arrows
