use Rattle.bus_tenure.proofs.Floors.{floor_kept}
use Rattle.bus_tenure.proofs.turning.Turns.keeps_floor.Goals as goal

pub returns : goal.returns
returns g c = floor_kept _ _ c.args.self.now c.args.least c.is_kept.ensures
