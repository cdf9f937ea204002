use Rattle.bus_picture.proofs.FamilyLaws.{has_family}
use Rattle.bus_picture.proofs.laws.kinds_have_families.Goals as goal

pub returns : goal.returns
returns c = has_family
