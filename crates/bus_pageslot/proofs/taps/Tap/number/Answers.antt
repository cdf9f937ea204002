use Rattle.std.proofs.Common.{◌<◌, subst}
use Rattle.bus_core.specs.Senders.{Sender}
use Rattle.bus_tenure.specs.Elections.{Elector}
use Rattle.bus_pageslot.specs.Rule.{table_layout_in}
use Rattle.bus_pageslot.specs.Seats.{ReceiverSeat}
use Rattle.bus_pageslot.proofs.Hears.ForkedTaps.{number_within}
use Rattle.bus_pageslot.proofs.taps.Tap.number.Goals as goal

pub returns-clause-within : goal.returns-clause-within
returns-clause-within g c =
    let S : Type 0 = ReceiverSeat (Sender (Elector g.row.Q.Denot)) in
    subst (λ (s : S). 0 < (table_layout_in s.me.0).passers
    → c.self.inside.listener.cells.number < (table_layout_in s.me.0).passers) c.self.view_is
    (number_within c.self.invariant)
