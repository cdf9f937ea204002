use Rattle.std.proofs.Common.{◌≡◌, ◌++◌, ◌∷◌, [], map, ap, ◌∙◌}
use Rattle.std.proofs.lemmas.List.{map-append}
use Rattle.std.proofs.lemmas.List.Elements.{All-push, All-same}
use Rattle.bus_receiver.specs.Hearing.{nothing}
use Rattle.bus_run.proofs.workers.receive_workers_of.Goals as goal

pub loop-tap-preserved : goal.loop-tap-preserved
loop-tap-preserved g c =
    let before = c.loop-tap.receive_workers.items in
    let receive_worker = c.new.result in
    let pushed = c.in_ok-push.ensures.items in
    let h = c.loop-tap.invariant in
    record {
      receivers =
          ap (map (λ receive_worker. receive_worker.receiver)) pushed
          ∙ map-append (λ receive_worker. receive_worker.receiver) before (receive_worker ∷ [])
          ∙ ap (λ z. z ++ receive_worker.receiver ∷ []) h.receivers
          ∙ ap (λ t. c.loop-tap.yielded ++ t ∷ []) c.new.ensures.receiver;
      fresh = All-same (λ receive_worker. receive_worker.heard ≡ nothing) _ _ pushed
          (All-push (λ receive_worker. receive_worker.heard ≡ nothing) before receive_worker h.fresh
          c.new.ensures.fresh);
    }
