use Rattle.std.proofs.Common.{◌≡◌, None, refl, subst, ◌∙◌, ap, arith}
use Rattle.bus_deliverylog.specs.declared.receiving.RecvTurn.TheVariants as turn
use Rattle.bus_pageslot.specs.Listening.{Hears, Writes, WritesOrPlain, At, Onward, sign_after}
use Rattle.bus_pageslot.proofs.Hears.PassTurns.{pass_is_due, pass_is_not_due, hears_passed}
use Rattle.bus_pageslot.proofs.Hears.ReaderLaws.{unread}
use Rattle.bus_pageslot.proofs.listening.hear_on.Goals as goal

pub loop-turn-init : goal.loop-turn-init
loop-turn-init g c = (
  refl,
  c.requires.receiver_view,
  c.requires.going,
  refl,
  refl,
  At,
  pass_is_not_due c.requires.receiver_view c.requires.going
      (c.pass_due.ensures.none c.in_default.is),
)

pub loop-turn-preserved : goal.loop-turn-preserved
loop-turn-preserved g c =
    let before = c.loop-turn in
    let taken = c.hear_next in
    let none : taken.result ≡ None = c.in_default-hear_next.is in
    let h = taken.ensures.hears in
    let plain : (h.0 ≡ turn.Going) × (taken.new.item ≡ before.item) =
    subst (λ t. WritesOrPlain h.0 before.item t taken.new.item) none h.1 in
    let less = (taken.ensures.plain none).0 in (
      taken.ensures.table ∙ before.invariant.0,
      taken.ensures.receiver_view,
      (taken.ensures.plain none).1,
      plain.1 ∙ before.invariant.3,
      h.2 ∙ ap (λ a. sign_after a before.sign) plain.0 ∙ before.invariant.4,
      Onward before.seat.me taken.new.seat.me before.invariant.5 before.invariant.6
          (unread before.invariant.1 (omega (arith, less)))
          (subst (λ a. Hears before.seat.me a taken.new.seat.me) plain.0 h.3),
      taken.ensures.passed none,
    )

pub pass-requires-clause-due : goal.pass-requires-clause-due
pass-requires-clause-due g c =
    let due = c.pass_due.ensures.due c.in-Some.at c.in-Some.is in
    pass_is_due c.requires.receiver_view c.in-Some.at due.0 due.1 due.2

pub returns-in-Some-clause-hears : goal.returns-in-Some-clause-hears
returns-in-Some-clause-hears g c =
    let due = c.pass_due.ensures.due c.in-Some.at c.in-Some.is in
    record {
      heard = record {
        old = c.args.seat.now.me;
        going = At;
        answer = turn.Going;
        hears = hears_passed c.requires.receiver_view c.requires.going
            (pass_is_due c.requires.receiver_view c.in-Some.at due.0 due.1 due.2)
            c.pass.ensures.passed;
        writes = record { told_is = refl; after_is = refl };
      };
      signs = refl;
    }

pub returns-in-Some-hear_next-clause-hears : goal.returns-in-Some-hear_next-clause-hears
returns-in-Some-hear_next-clause-hears g c =
    let before = c.loop-turn in
    let taken = c.hear_next in
    let told = c.in-Some-hear_next.turn in
    let h = taken.ensures.hears in
    record {
      heard = record {
        old = before.seat.me;
        going = before.invariant.5;
        answer = h.0;
        hears = h.3;
        writes = subst (λ i. Writes h.0 i told taken.new.item) before.invariant.3
            (subst (λ t. WritesOrPlain h.0 before.item t taken.new.item) c.in-Some-hear_next.is
            h.1);
      };
      signs = h.2 ∙ ap (sign_after h.0) before.invariant.4;
    }
