use Rattle.std.proofs.Common.{◌≡◌, ◌++◌, ◌∷◌, [], None, map, sym, ap, ◌∙◌}
use Rattle.std.proofs.lemmas.List.{map-append}
use Rattle.std.proofs.lemmas.List.Elements.{All-push, All-same}
use Rattle.bus_run.specs.Words.{generator_of}
use Rattle.bus_run.specs.Left.{number_of}
use Rattle.bus_run.proofs.workers.send_workers_of.Goals as goal

pub loop-sender-preserved : goal.loop-sender-preserved
loop-sender-preserved g c =
    let before = c.loop-sender.send_workers.items in
    let send_worker = c.new.result in
    let pushed = c.in_ok-push.ensures.items in
    let h = c.loop-sender.invariant in
    record {
      senders =
          ap (map (λ send_worker. send_worker.sender)) pushed
          ∙ map-append (λ send_worker. send_worker.sender) before (send_worker ∷ [])
          ∙ ap (λ z. z ++ send_worker.sender ∷ []) h.senders
          ∙ ap (λ s. c.loop-sender.yielded ++ s ∷ []) c.new.ensures.sender;
      words = All-same
          (λ send_worker. send_worker.rng ≡ generator_of c.args.seed (number_of send_worker.sender))
          _ _ pushed
          (All-push
          (λ send_worker. send_worker.rng ≡ generator_of c.args.seed (number_of send_worker.sender))
          before send_worker h.words (c.new.ensures.words
          ∙ ap (λ s. generator_of c.args.seed (number_of s)) (sym c.new.ensures.sender)));
      unstopped = All-same (λ send_worker. send_worker.fault ≡ None) _ _ pushed
          (All-push (λ send_worker. send_worker.fault ≡ None) before send_worker h.unstopped
          c.new.ensures.fault);
    }
