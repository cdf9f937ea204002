use Rattle.bus_pageslot.proofs.listening.feed_word.Goals as goal

pub returns-clause-word : goal.returns-clause-word
returns-clause-word c = (
  c.take_word.result,
  c.tell.ensures.item,
  c.tell.ensures.sign,
  c.take_word.ensures.word,
)
