use Rattle.std.proofs.Common.{◌+◌, ◌++◌, ◌∷◌, [], length-append, ap, sym, ◌∙◌, is_some}
use Rattle.std.specs.Prelude.{not}
use Rattle.std.proofs.lemmas.Bool.{true≢false}
use Rattle.std.proofs.lemmas.List.{map-append}
use Rattle.std.proofs.lemmas.List.Elements.{All-push, All-same}
use Rattle.bus_run.specs.Audit.{IsSummed}
use Rattle.bus_run.proofs.LeftLemmas.{still_first}
use Rattle.bus_run.proofs.closing.notes_of.Goals as goal

pub loop-receive_worker-preserved-else-is_none : goal.loop-receive_worker-preserved-else-is_none
loop-receive_worker-preserved-else-is_none g c =
    let h = c.loop-receive_worker.invariant in
    let before = c.loop-receive_worker.yielded in
    let receive_worker = c.in-Some.receive_worker in
    record {
      notes =
          c.push_reserved.ensures.items ∙ ap (λ z. z ++ receive_worker.heard ∷ []) h.notes
          ∙ sym (map-append (λ receive_worker. receive_worker.heard) before (receive_worker ∷ []));
      summed = All-same IsSummed _ _ c.push_reserved.ensures.items
          (All-push IsSummed c.loop-receive_worker.heards.items receive_worker.heard h.summed
          receive_worker.summed);
      many =
          c.push_reserved.ensures.len ∙ ap (λ n. n + 1) h.many
          ∙ sym (length-append before (receive_worker ∷ []));
      room = c.push_reserved.ensures.capacity ∙ h.room;
      table = h.table;
      first = still_first (λ receive_worker. receive_worker.receiver.me.0) (λ r. r.me.0)
          c.loop-receive_worker.first before receive_worker h.first;
      some = λ e. absurd
          (true≢false (sym (ap not c.if-is_none.false) ∙ sym c.is_none.ensures ∙ ap is_some e));
    }
