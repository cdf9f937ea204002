use Rattle.std.proofs.Common.{◌≡◌}
use Rattle.bus_pageslot.proofs.Hears.Spans.{Midway}
use Rattle.bus_pageslot.proofs.listening.hear_span.Given as goal

abbrev pub invariant-loop-i : goal.invariant-loop-i
invariant-loop-i g l =
    (l.seat.table_id ≡ l.fn.seat.table_id)
    × Midway l.fn.seat.me l.seat.me l.seat.table_id.words l.fn.listener l.span l.item.message l.i
