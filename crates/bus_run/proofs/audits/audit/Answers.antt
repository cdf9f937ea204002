use Rattle.std.proofs.Common.{All, length, refl, sym, ◌∙◌, subst}
use Rattle.std.proofs.lemmas.Option.{slice_get_read}
use Rattle.std.proofs.lemmas.List.{take_all}
use Rattle.bus_run.specs.Audit.{IsFair}
use Rattle.bus_run.proofs.AuditLemmas.{one_more_fair}
use Rattle.bus_run.proofs.audits.audit.Goals as goal

pub returns-in-Some-clause-fault : goal.returns-in-Some-clause-fault
returns-in-Some-clause-fault c = λ order owners spells. (
  c.loop-place.invariant order owners spells,
  c.index-heards-place.result,
  slice_get_read c.args.heards.now (length c.args.heards.now) c.loop-place.place
      c.index-heards-place.result refl c.loop-place-test.true c.index-heards-place.is,
  c.in-Some.ensures.some.0,
  c.in-Some.ensures.some.1 order owners spells,
)

pub returns-then-not-ended-clause-fault : goal.returns-then-not-ended-clause-fault
returns-then-not-ended-clause-fault c = λ order owners spells. (
  c.loop-place.invariant order owners spells,
  c.index-heards-place.result,
  slice_get_read c.args.heards.now (length c.args.heards.now) c.loop-place.place
      c.index-heards-place.result refl c.loop-place-test.true c.index-heards-place.is,
  c.first_miscount.ensures.none c.in_default.is order owners spells,
  sym c.ended.ensures ∙ c.if-not-ended.true,
)

pub loop-place-preserved : goal.loop-place-preserved
loop-place-preserved c = λ order owners spells. one_more_fair (IsFair order) c.args.heards.now
    c.loop-place.place c.index-heards-place.result c.loop-place-test.true c.index-heards-place.is
    (c.loop-place.invariant order owners spells) (
      c.first_miscount.ensures.none c.in_default.is order owners spells,
      sym c.ended.ensures ∙ c.if-not-ended.false,
    )

pub returns-clause-ok : goal.returns-clause-ok
returns-clause-ok c = λ order owners spells. subst (All (IsFair order))
    (take_all c.loop-place.place c.args.heards.now c.loop-place-test.false)
    (c.loop-place.invariant order owners spells)

pub returns-in-Some-first_leaver-clause-fault : goal.returns-in-Some-first_leaver-clause-fault
returns-in-Some-first_leaver-clause-fault c = λ order owners spells. (
  subst (All (IsFair order)) (take_all c.loop-place.place c.args.heards.now c.loop-place-test.false)
      (c.loop-place.invariant order owners spells),
  c.in-Some-first_leaver.ensures.some.0,
  c.in-Some-first_leaver.ensures.some.1 order owners spells,
)

pub returns-clause-stay : goal.returns-clause-stay
returns-clause-stay c = c.first_leaver.ensures.none c.in_default-first_leaver.is
