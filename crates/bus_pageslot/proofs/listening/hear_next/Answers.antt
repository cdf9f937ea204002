use Rattle.std.proofs.Common.{◌≡◌, subst, ◌∙◌}
use Rattle.bus_deliverylog.specs.declared.receiving.RecvTurn.TheVariants as turn
use Rattle.bus_pageslot.specs.Listening.{HearsWord, WritesOrPlain}
use Rattle.bus_pageslot.proofs.Hears.Rounds.{not_known}
use Rattle.bus_pageslot.proofs.SeatSteps.Silent.{not_due_after}
use Rattle.bus_pageslot.proofs.listening.hear_next.Goals as goal

pub returns-then-place-listener-clause-passed : goal.returns-then-place-listener-clause-passed
returns-then-place-listener-clause-passed g c none =
    let word = c.hear_word in
    let heard = word.ensures.hears in
    let plain : (heard.0 ≡ turn.Going) × (word.new.item ≡ c.args.item.now) =
    subst (λ t. WritesOrPlain heard.0 c.args.item.now t word.new.item) none heard.1 in
    not_due_after c.requires.receiver_view
    (not_known c.args.listener.now c.requires.receiver_view.round
    (λ same. c.if-place-listener.true (c.place.ensures.place ∙ same)))
    (subst (λ a. HearsWord c.args.seat.now.me a word.new.seat.me) plain.0 heard.3)

pub hear_length-requires-clause-not_due : goal.hear_length-requires-clause-not_due
hear_length-requires-clause-not_due g c = c.requires.passed
