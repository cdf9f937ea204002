use Rattle.std.proofs.Common.{arith, refl}
use Rattle.bus_pageslot.proofs.Hears.PassTurns.{has_passers}
use Rattle.bus_pageslot.proofs.listeners.LogCells.of.Goals as goal

pub returns-clause-ring : goal.returns-clause-ring
returns-clause-ring c x h up low =
    let own = has_passers x c.args.self.number c.in-Some.at c.args.self.passed_at h.passed_is
    c.in-Some.is in
    let at = own.1 in
    let room = h.passed_room c.args.number low in
    record {
      number_is = refl;
      passers_is = h.passers_is;
      passed_room = h.passed_room;
      log_is = h.log_is;
      capacity_is = h.capacity_is;
      passed_is = (low, (omega arith), (omega arith));
      some = h.some;
      room = h.room;
      few = h.few;
      behind = h.behind;
    }
