use Rattle.std.proofs.Common.{◌≡◌, length, None, refl, sym, ◌∙◌, subst}
use Rattle.std.proofs.lemmas.List.{take_all}
use Rattle.std.proofs.lemmas.Option.{slice_get_read}
use Rattle.bus_pageslot.proofs.Said.Endings.{nothing_there}
use Rattle.bus_run.specs.Stops.{AreUnstopped}
use Rattle.bus_run.proofs.AuditLemmas.{one_more_fair}
use Rattle.bus_run.proofs.StopLemmas.{stopped_at}
use Rattle.bus_run.proofs.closing.first_stop.Goals as goal

pub returns-then-is_some-clause-stop : goal.returns-then-is_some-clause-stop
returns-then-is_some-clause-stop g c =
    let no_gate = sym c.gate_refused.ensures ∙ c.if-gate_refused.false in
    let at = slice_get_read c.args.send_workers.now (length c.args.send_workers.now)
    c.loop-place.place c.index-send_workers-place.result refl c.loop-place-test.true
    c.index-send_workers-place.is in (
      no_gate,
      c.loop-place.invariant,
      c.index-send_workers-place.result,
      at,
      stopped_at (λ send_worker. send_worker.fault) c.args.send_workers.now c.loop-place.place
          c.index-send_workers-place.result no_gate at (sym c.is_some.ensures ∙ c.if-is_some.true),
    )

pub loop-place-preserved : goal.loop-place-preserved
loop-place-preserved g c =
    one_more_fair (λ send_worker. send_worker.fault ≡ None) c.args.send_workers.now
    c.loop-place.place c.index-send_workers-place.result c.loop-place-test.true
    c.index-send_workers-place.is c.loop-place.invariant
    (nothing_there c.index-send_workers-place.result.fault
    (sym c.is_some.ensures ∙ c.if-is_some.false))

pub returns-clause-none : goal.returns-clause-none
returns-clause-none g c = λ is. subst (AreUnstopped (λ send_worker. send_worker.fault))
    (take_all c.loop-place.place c.args.send_workers.now c.loop-place-test.false)
    c.loop-place.invariant
