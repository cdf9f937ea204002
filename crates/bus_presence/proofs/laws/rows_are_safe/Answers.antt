use Rattle.bus_presence.proofs.ReclamationLaws.{every_reclamation_is_safe}
use Rattle.bus_presence.proofs.laws.rows_are_safe.Goals as goal

pub returns : goal.returns
returns c = every_reclamation_is_safe
