use Rattle.std.proofs.Common.{inr, map, subst}
use Rattle.std.specs.Vec.{vec_capacity}
use Rattle.std.proofs.lemmas.Result.{IfErr-weaker}
use Rattle.bus_run.specs.Stops.{AreUnstopped, IsLate, IsWhole}
use Rattle.bus_run.specs.Left.{number_of}
use Rattle.bus_run.proofs.closing.end_and_audit.Goals as goal

pub returns-clause-fault : goal.returns-clause-fault
returns-clause-fault g c =
    let Late = IsLate (λ send_worker. send_worker.sender) c.args.shape c.args.messages
    (vec_capacity c.args.room) c.args.workers.send_workers.items
    (map (λ receive_worker. receive_worker.receiver.me.0) c.args.workers.receive_workers.items)
    (map (λ receive_worker. receive_worker.heard) c.args.workers.receive_workers.items) in
    let here = c.is_whole.ensures.whole c.if-not-is_whole.false in
    let whole = subst (λ es. IsWhole (λ send_worker. number_of send_worker.sender) c.args.shape
    c.args.workers.send_workers.items es) c.as_slice-2.ensures.value
    (subst (λ ds.
    IsWhole (λ send_worker. number_of send_worker.sender) c.args.shape ds c.as_slice-2.result.now)
    c.as_slice.ensures.value here) in
    let unstopped = subst (AreUnstopped (λ send_worker. send_worker.fault))
    c.as_slice-3.ensures.value (c.first_stop.ensures.none c.in_default.is) in
    IfErr-weaker c.end_whole.result Late _ (λ fault late. inr (inr (whole, unstopped, late)))
    c.end_whole.ensures.late
