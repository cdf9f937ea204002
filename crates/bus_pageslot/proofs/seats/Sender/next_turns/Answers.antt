use Rattle.std.proofs.Common.{sym, ◌∙◌, ap}
use Rattle.bus_pageslot.specs.Turns.{tells_with, word_drawn, NoneYet}
use Rattle.bus_pageslot.proofs.SeatSteps.Rows.{takes_some}
use Rattle.bus_pageslot.proofs.seats.Sender.next_turns.Goals as goal

-- a vote
pub returns-clause-some : goal.returns-clause-some
unfolding tells_with
returns-clause-some g c = record {
  n = 0;
  old = c.args.self.now;
  before = NoneYet;
  last = record {
    word = c.next_u32-word.result;
    drawn = c.next_u32-word.ensures
        ∙ ap (λ b. word_drawn b (g.R.Rng.stream c.args.rng.now))
        (sym (sym c.wants_word_for.ensures ∙ c.if-not-wants_word_for.false));
    turned = record { rests = c.full_turn.ensures.rests; steps = c.full_turn.ensures.steps };
  };
}

pub returns-then-not-wants_word_for-clause-some : goal.returns-then-not-wants_word_for-clause-some
unfolding tells_with
returns-then-not-wants_word_for-clause-some g c =
    takes_some c.wordless_turns-many.result.0 c.wordless_turns-many.result.1
    c.wordless_turns-many.new.self
    (g.R.Rng.stream c.args.rng.now) c.wordless_turns-many.ensures.takes
