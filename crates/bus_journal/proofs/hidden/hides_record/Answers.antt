use Rattle.std.proofs.Common.{◌≡◌, ◌+◌, ◌*◌, drop, ap, sym, subst, ◌∙◌, arith, inl, inr}
use Rattle.std.proofs.lemmas.Bool.{cases_lt}
use Rattle.bus_journal.specs.Records.{BeginsRecord}
use Rattle.bus_journal.proofs.Hiding.{none_hidden}
use Rattle.bus_journal.proofs.hidden.hides_record.Goals as goal

pub loop-before-preserved : goal.loop-before-preserved
loop-before-preserved c b later below some few r = elim (cases_lt b c.loop-before.before) [
  | inl before ↦ c.loop-before.invariant b later before some few r
  | inr late ↦
      let same : b ≡ c.loop-before.before = omega (arith, below, late) in
      let at = subst (λ z. BeginsRecord c.args.senders c.args.most (c.args.place + later) z)
      (ap (λ z. drop (8 * z) c.args.bytes.now) same ∙ sym c.split_at.ensures.back) r in
      let yes = c.begins_later.ensures.1 (later, some, omega (arith, few, same), at) in
      let no = c.if-begins_later.false in absurd cc
]

pub returns : goal.returns
returns c = (
  λ yes. absurd cc,
  λ h.
      let past = c.loop-before-test.false in
      absurd (none_hidden c.args.senders c.args.most c.args.place c.loop-before.before
      c.args.bytes.now (omega (arith, past)) c.loop-before.invariant h),
)
