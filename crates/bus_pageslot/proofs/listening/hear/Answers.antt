use Rattle.std.proofs.Common.{refl}
use Rattle.bus_deliverylog.specs.declared.receiving.RecvTurn.TheVariants as turn
use Rattle.bus_pageslot.proofs.Hears.PassTurns.{pass_is_due, pass_is_not_due, hears_passed}
use Rattle.bus_pageslot.proofs.listening.hear.Goals as goal

pub pass-requires-clause-due : goal.pass-requires-clause-due
pass-requires-clause-due g c =
    let due = c.pass_due.ensures.due c.in-Some.at c.in-Some.is in
    pass_is_due c.requires.receiver_view c.in-Some.at due.0 due.1 due.2

pub returns-in-Some-clause-hears : goal.returns-in-Some-clause-hears
returns-in-Some-clause-hears g c =
    let due = c.pass_due.ensures.due c.in-Some.at c.in-Some.is in (
      turn.Going,
      record { told_is = refl; after_is = refl },
      refl,
      hears_passed c.requires.receiver_view c.requires.going
          (pass_is_due c.requires.receiver_view c.in-Some.at due.0 due.1 due.2)
          c.pass.ensures.passed,
    )

pub hear_next-requires-clause-passed : goal.hear_next-requires-clause-passed
hear_next-requires-clause-passed g c =
    pass_is_not_due c.requires.receiver_view c.requires.going
    (c.pass_due.ensures.none c.in_default.is)
