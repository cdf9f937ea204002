use Rattle.std.proofs.Common.{◌+◌, ◌∙◌, ap}
use Rattle.bus_tenure.specs.Core.{frame_len}
use Rattle.bus_tenure.proofs.turning.Turns.length_after.Goals as goal

pub returns : goal.returns
returns g c = ap (λ z. c.args.words + z) (c.frame_len.ensures.len 0 ∙ ap frame_len c.self.view_is)
