use Rattle.std.proofs.Common.{◌≡◌, ◌<◌, length, slice_index, inl, inr, arith, sym, ◌∙◌, subst}
use Rattle.std.proofs.lemmas.Bool.{cases_lt}
use Rattle.bus_register.specs.declared.limits.TheConstants.{MOST_SENDERS}
use Rattle.bus_deliverylog.specs.Orders.{of_sender}
use Rattle.bus_run.specs.Audit.{OfOrder, Miscounts}
use Rattle.bus_run.proofs.audits.first_miscount.Goals as goal

pub returns-then-count-clause-some : goal.returns-then-count-clause-some
returns-then-count-clause-some c =
    let lt : c.loop-number.number < MOST_SENDERS = omega arith in
    subst (λ n.
    (n < MOST_SENDERS) × OfOrder c.args.ended.now (λ order. Miscounts order c.args.heard.now n))
    (sym c.from.ensures) (
      lt,
      λ order owners spells. (
        c.loop-number.invariant order owners spells,
        λ e. c.if-count.true
            (c.count.ensures ∙ e
            ∙ sym (c.count-in-loop-number.ensures.counts c.requires.whole order owners spells)),
      ),
    )

pub loop-number-preserved : goal.loop-number-preserved
loop-number-preserved c = λ order owners spells s lt. elim (cases_lt s c.loop-number.number) [
  | inl l ↦ c.loop-number.invariant order owners spells s l
  | inr ge ↦
      let at : s ≡ c.loop-number.number = omega arith in
      subst (λ n. slice_index c.args.heard.now.counts n ≡ length (of_sender n order)) (sym at)
      (sym c.count.ensures ∙ c.if-count.false
      ∙ c.count-in-loop-number.ensures.counts c.requires.whole order owners spells)
]

pub returns-clause-none : goal.returns-clause-none
returns-clause-none c =
    λ is order owners spells s lt. c.loop-number.invariant order owners spells s (omega arith)
