use Rattle.std.proofs.Common.{◌∙◌, ap}
use Rattle.bus_tenure.specs.Core.{frame_len}
use Rattle.bus_tenure.proofs.turning.Turns.frame_len.Goals as goal

pub returns-clause-len : goal.returns-clause-len
returns-clause-len g c = c.frame_len.ensures.len 0 ∙ ap frame_len c.self.view_is
