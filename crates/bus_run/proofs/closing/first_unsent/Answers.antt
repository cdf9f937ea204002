use Rattle.std.proofs.Common.{All, length, refl, subst}
use Rattle.std.proofs.lemmas.List.{take_all}
use Rattle.std.proofs.lemmas.Option.{slice_get_read}
use Rattle.bus_run.specs.Stops.{HasSent}
use Rattle.bus_run.proofs.AuditLemmas.{one_more_fair}
use Rattle.bus_run.proofs.closing.first_unsent.Goals as goal

pub returns-then-not-has_put-clause-unsent : goal.returns-then-not-has_put-clause-unsent
returns-then-not-has_put-clause-unsent g c = (
  c.loop-place.invariant,
  c.index-send_workers-place.result,
  slice_get_read c.args.send_workers.now (length c.args.send_workers.now) c.loop-place.place
      c.index-send_workers-place.result refl c.loop-place-test.true c.index-send_workers-place.is,
  c.has_put.ensures.not_all c.if-not-has_put.true,
)

pub loop-place-preserved : goal.loop-place-preserved
loop-place-preserved g c =
    one_more_fair (λ send_worker. HasSent c.args.messages send_worker.sender)
    c.args.send_workers.now c.loop-place.place c.index-send_workers-place.result
    c.loop-place-test.true c.index-send_workers-place.is c.loop-place.invariant
    (c.has_put.ensures.all c.if-not-has_put.false)

pub returns-clause-none : goal.returns-clause-none
returns-clause-none g c = λ is. subst
    (All (λ send_worker. HasSent c.args.messages send_worker.sender))
    (take_all c.loop-place.place c.args.send_workers.now c.loop-place-test.false)
    c.loop-place.invariant
