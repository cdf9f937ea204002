use Rattle.std.proofs.Common.{◌+◌, ◌%◌, ◌^◌, ◌∙◌, ap}
use Rattle.bus_pageslot.proofs.Hears.Rounds.{cell_at}
use Rattle.bus_pageslot.proofs.listeners.Listener.at.Goals as goal

pub returns : goal.returns
returns c =
    ap (λ p. (p + c.args.self.now.shift) % 2 ^ 64) c.place.ensures.place
    ∙ cell_at c.args.self.now c.requires.round c.requires.below
