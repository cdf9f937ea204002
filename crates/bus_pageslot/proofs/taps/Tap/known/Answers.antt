use Rattle.std.proofs.Common.{length, sym, ◌∙◌, ap}
use Rattle.bus_pageslot.specs.Rule.{known_in}
use Rattle.bus_pageslot.proofs.taps.Tap.known.Goals as goal

pub returns : goal.returns
returns g c =
    let h = c.self.invariant in
    c.known.ensures ∙ h.fit.known ∙ ap (λ m. length (known_in m.0)) (sym h.me)
    ∙ ap (λ s. length (known_in s.me.0)) c.self.view_is
