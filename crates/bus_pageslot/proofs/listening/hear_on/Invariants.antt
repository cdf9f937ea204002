use Rattle.std.proofs.Common.{◌≡◌, ◌-◌, false}
use Rattle.bus_pageslot.specs.Seats.{IsReceiverView}
use Rattle.bus_pageslot.specs.Listening.{GoesOnTo, PassesNext}
use Rattle.bus_pageslot.proofs.listening.hear_on.Given as goal

abbrev pub invariant-loop-turn : goal.invariant-loop-turn
invariant-loop-turn g l =
    (l.seat.table_id ≡ l.fn.seat.table_id)
    × IsReceiverView l.seat.me l.seat.table_id.words l.listener
    × (l.listener.reader.ended ≡ false)
    × (l.item ≡ l.fn.item) × (l.sign ≡ l.fn.sign) × GoesOnTo l.fn.seat.me l.seat.me
    × (PassesNext l.seat.me.0 → ⊥)

abbrev pub decreases-loop-turn : goal.decreases-loop-turn
decreases-loop-turn g l = l.listener.reader.known - l.listener.reader.place
