use Rattle.std.proofs.Common.{◌≡◌, ◌+◌, false, is_some, subst, arith, inl, inr}
use Rattle.std.proofs.lemmas.Bool.{cases_lt}
use Rattle.bus_journal.specs.Records.{BeginsRecord}
use Rattle.bus_journal.proofs.Hiding.{no_record, none_found}
use Rattle.bus_journal.proofs.hidden.begins_later.Goals as goal

pub loop-later-preserved : goal.loop-later-preserved
loop-later-preserved c later some below r = elim (cases_lt later c.loop-later.later) [
  | inl before ↦ c.loop-later.invariant later some before r
  | inr late ↦
      let same : later ≡ c.loop-later.later = omega (arith, below, late) in
      let e = c.is_some.ensures in
      let f = c.if-is_some.false in
      let none : is_some c.record_at.result ≡ false = cc in
      no_record c.args.senders c.args.most (c.args.place + c.loop-later.later) c.args.bytes.now
      (none_found c.record_at.result none c.record_at.ensures.none)
      (subst (λ z. BeginsRecord c.args.senders c.args.most (c.args.place + z) c.args.bytes.now)
      same r)
]

pub returns : goal.returns
returns c = (
  λ yes. absurd cc,
  λ r.
      let below = r.2 in
      let past = c.loop-later-test.false in
      absurd (c.loop-later.invariant r.0 r.1 (omega (arith, below, past)) r.3),
)
