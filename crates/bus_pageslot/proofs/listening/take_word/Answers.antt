use Rattle.std.proofs.Common.{refl}
use Rattle.bus_deliverylog.specs.declared.receiving.RecvTurn.TheVariants as turn
use Rattle.bus_pageslot.proofs.Hears.ReaderLaws.{still_to_take}
use Rattle.bus_pageslot.proofs.listening.take_word.Goals as goal

pub returns-then-take_item-clause-word : goal.returns-then-take_item-clause-word
returns-then-take_item-clause-word c = (
  turn.Item c.take_item.new.item,
  record { told_is = refl; after_is = refl },
  refl,
  c.take_item.ensures.word c.if-take_item.true,
)

pub returns-clause-word : goal.returns-clause-word
returns-clause-word c = still_to_take (c.take_item.ensures.stays c.if-take_item.false)
    c.feed_word.ensures.word
