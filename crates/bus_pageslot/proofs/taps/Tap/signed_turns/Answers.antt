use Rattle.std.proofs.Common.{rules, refl}
use Rattle.bus_deliverylog.specs.declared.receiving.RecvTurn.TheVariants as turn
use Rattle.bus_pageslot.specs.Listening.{Hears, At}
use Rattle.bus_pageslot.proofs.taps.Tap.signed_turns.Goals as goal

pub returns-then-has_ended-clause-hears : goal.returns-then-has_ended-clause-hears
returns-then-has_ended-clause-hears g c =
    let ended : Hears c.args.self.now.me turn.End c.args.self.now.me = search rules in
    record {
      heard = record {
        old = c.args.self.now.me;
        going = At;
        answer = turn.End;
        hears = ended;
        writes = record { told_is = refl; after_is = refl };
      };
      signs = refl;
    }
