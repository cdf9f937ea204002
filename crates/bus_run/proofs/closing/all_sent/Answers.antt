use Rattle.std.proofs.Common.{◌≡◌, length, inl, inr, arith, refl, sym, ◌∙◌, subst}
use Rattle.std.proofs.lemmas.Bool.{cases_lt}
use Rattle.bus_deliverylog.specs.Orders.{of_sender}
use Rattle.bus_run.proofs.closing.all_sent.Goals as goal

pub loop-number-preserved : goal.loop-number-preserved
loop-number-preserved c = λ order owners spells s lt. elim (cases_lt s c.loop-number.number) [
  | inl l ↦ c.loop-number.invariant order owners spells s l
  | inr ge ↦
      let at : s ≡ c.loop-number.number = omega arith in
      subst (λ n. length (of_sender n order) ≡ c.args.messages) (sym at)
      (sym (c.count.ensures.counts c.requires.whole order owners spells)
      ∙ c.if-count-messages.false)
]

pub returns-then-count-messages-clause-fault : goal.returns-then-count-messages-clause-fault
returns-then-count-messages-clause-fault c = (
  c.loop-number.number,
  refl,
  omega arith,
  c.count.ensures.spelled,
  λ order owners spells. (
    c.loop-number.invariant order owners spells,
    λ e. c.if-count-messages.true (c.count.ensures.counts c.requires.whole order owners spells ∙ e),
  ),
)
