use Rattle.std.proofs.Common.{◌≡◌, ◌<◌, false, inl, inr, arith, sym, ◌∙◌, subst}
use Rattle.std.proofs.lemmas.Bool.{cases_lt}
use Rattle.std.proofs.lemmas.Option.{get_or_from_slice_get}
use Rattle.bus_register.specs.declared.limits.TheConstants.{MOST_SENDERS}
use Rattle.bus_batch.specs.Frames.{has_gone}
use Rattle.bus_run.proofs.audits.first_leaver.Goals as goal

pub returns-then-page-number-clause-some : goal.returns-then-page-number-clause-some
returns-then-page-number-clause-some c =
    let below : c.loop-number.number < MOST_SENDERS = omega arith in (
      below,
      λ order owners spells. (
        c.loop-number.invariant order owners spells,
        sym (get_or_from_slice_get c.page-page.result.now.left c.loop-number.number
            (has_gone c.loop-number.number order) false
            (c.page-page.ensures.left c.requires.whole c.loop-number.number order owners below
            spells))
            ∙ c.if-page-number.true,
      ),
    )

pub loop-number-preserved : goal.loop-number-preserved
loop-number-preserved c = λ order owners spells s lt. elim (cases_lt s c.loop-number.number) [
  | inl l ↦ c.loop-number.invariant order owners spells s l
  | inr ge ↦
      let at : s ≡ c.loop-number.number = omega arith in
      let below : c.loop-number.number < MOST_SENDERS = omega arith in
      subst (λ n. has_gone n order ≡ false) (sym at)
      (sym (get_or_from_slice_get c.page-page.result.now.left c.loop-number.number
      (has_gone c.loop-number.number order) false
      (c.page-page.ensures.left c.requires.whole c.loop-number.number order owners below spells))
      ∙ c.if-page-number.false)
]

pub returns-clause-none : goal.returns-clause-none
returns-clause-none c =
    λ is order owners spells s lt. c.loop-number.invariant order owners spells s (omega arith)
