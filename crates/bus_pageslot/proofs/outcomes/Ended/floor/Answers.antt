use Rattle.std.proofs.Common.{◌+◌, sym, ◌∙◌, ap, length}
use Rattle.bus_pageslot.specs.Outcomes.{Outcome}
use Rattle.bus_pageslot.proofs.outcomes.Ended.floor.Goals as goal

pub returns-clause-words : goal.returns-clause-words
returns-clause-words c =
    ap (λ (z : Outcome). c.self.inside.floor + length z.log) (sym c.self.view_is)
    ∙ sym c.self.invariant.words
    ∙ ap (λ (z : Outcome). z.page.words) c.self.view_is
