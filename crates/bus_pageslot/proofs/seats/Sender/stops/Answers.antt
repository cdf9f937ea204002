use Rattle.std.proofs.Common.{inl, inr, sym, ◌∙◌}
use Rattle.std.proofs.lemmas.Bool.{true≢false}
use Rattle.bus_pageslot.proofs.seats.Sender.stops.Goals as goal

pub returns-then-is_behind-clause-over : goal.returns-then-is_behind-clause-over
returns-then-is_behind-clause-over g c e = inl (sym c.is_behind.ensures ∙ c.if-is_behind.true)

pub returns-then-is_behind-clause-goes : goal.returns-then-is_behind-clause-goes
returns-then-is_behind-clause-goes g c e = absurd (true≢false e)

pub returns-then-has_begun-clause-over : goal.returns-then-has_begun-clause-over
returns-then-has_begun-clause-over g c e = absurd (true≢false (sym e))

pub returns-then-has_begun-clause-goes : goal.returns-then-has_begun-clause-goes
returns-then-has_begun-clause-goes g c e = (
  sym c.is_behind.ensures ∙ c.if-is_behind.false,
  sym c.has_begun.ensures ∙ c.if-has_begun.true,
)

pub returns-clause-over : goal.returns-clause-over
returns-clause-over g c e = inr (sym c.has_begun.ensures ∙ c.if-has_begun.false)

pub returns-clause-goes : goal.returns-clause-goes
returns-clause-goes g c e = absurd (true≢false e)
