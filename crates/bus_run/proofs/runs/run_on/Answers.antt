use Rattle.std.proofs.Common.{map}
use Rattle.std.specs.Vec.{vec_capacity}
use Rattle.std.proofs.lemmas.List.{length-map}
use Rattle.std.proofs.lemmas.Result.{IfErr-weaker}
use Rattle.bus_run.specs.Stops.{IsStop}
use Rattle.bus_run.proofs.StopLemmas.{workers_stop}
use Rattle.bus_run.specs.Left.{number_of}
use Rattle.bus_run.proofs.runs.run_on.Goals as goal

pub returns-clause-fault : goal.returns-clause-fault
returns-clause-fault g c =
    let send_workers = c.spawn_workers-workers.result.send_workers.items in
    let receive_workers = c.spawn_workers-workers.result.receive_workers.items in
    IfErr-weaker c.end_and_audit.result _ (IsStop c.args.shape.senders c.args.shape.receivers)
    (λ fault h. workers_stop (λ send_worker. number_of send_worker.sender)
    (λ send_worker. send_worker.fault) (λ send_worker. send_worker.sender) c.args.shape
    c.args.load.messages (vec_capacity c.in_ok-room.room) send_workers receive_workers
    (map (λ receive_worker. receive_worker.receiver.me.0) receive_workers)
    (map (λ receive_worker. receive_worker.heard) receive_workers) fault
    (length-map receive_workers (λ receive_worker. receive_worker.heard)) h)
    c.end_and_audit.ensures.fault
