use Rattle.bus_picture.proofs.DrawnRows.{has_rows}
use Rattle.bus_picture.proofs.laws.pictures_have_their_rows.Goals as goal

pub returns : goal.returns
returns c = has_rows
