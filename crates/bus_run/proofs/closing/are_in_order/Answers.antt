use Rattle.std.proofs.Common.{sym, ◌∙◌, subst}
use Rattle.std.proofs.lemmas.List.{take_all}
use Rattle.bus_run.specs.Stops.{AreInOrder}
use Rattle.bus_run.proofs.StopLemmas.{one_more_in_order}
use Rattle.bus_run.specs.Left.{number_of}
use Rattle.bus_run.proofs.closing.are_in_order.Goals as goal

pub loop-place-preserved : goal.loop-place-preserved
loop-place-preserved g c =
    one_more_in_order (λ send_worker. number_of send_worker.sender) c.args.send_workers.now
    c.loop-place.place c.index-send_workers-place.result c.loop-place-test.true
    c.index-send_workers-place.is c.loop-place.invariant
    (sym c.number.ensures ∙ c.if-number-place.false)

pub returns-clause-order : goal.returns-clause-order
returns-clause-order g c = λ is. subst (AreInOrder (λ send_worker. number_of send_worker.sender))
    (take_all c.loop-place.place c.args.send_workers.now c.loop-place-test.false)
    c.loop-place.invariant
