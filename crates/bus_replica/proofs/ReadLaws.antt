-- What a read has in its state: all that stood in the order when it began.
use Rattle.std.proofs.Common.{◌≡◌, ℕ, ◌+◌, ◌-◌, ◌≤◌, List, ◌++◌, length, flat_map, take}
use Rattle.std.proofs.Common.{slice_index, inr, sym, ◌∙◌, ap, subst, append_assoc, arith}
use Rattle.std.proofs.Math.Seq.{take-append-add}
use Rattle.std.proofs.lemmas.Grind.{flat_map-append, common_steps}
use mathlib.Core.Option.{some}
use lib.ListN.{get_elem?}
use Rattle.bus_batch.specs.Frames.{Frame, items_in, log_pieces, log_words, order_of}
use Rattle.bus_batch.proofs.PieceLaws.{order_in-log}
use Rattle.bus_tenure.specs.Core.{length_at}
use Rattle.bus_world.proofs.ReceivingLaws.{length-log_pieces}
use Rattle.bus_world.specs.Headline.{IsPrefix, order_given}
use Rattle.bus_automaton.specs.Processes.{Process, Automaton, base_in}
use Rattle.bus_pageslot.specs.Lasting.{RuledTable, published}
use Rattle.bus_pageslot.specs.Promised.{IsPromised}
use Rattle.bus_pageslot.specs.ReceiverViews.{ReceiverView, HasHeard}
use Rattle.bus_pageslot.specs.Rule.{receiver_view_in}
use Rattle.bus_replica.specs.Replicas.{Operations, IsFold, HasCaughtUp, Replicated, items_heard}
use Rattle.bus_replica.specs.Linearized.{PageOf, IsRead}
use Rattle.bus_replica.proofs.OrderLaws.{items_given, items_begin, shows_own}
use Rattle.bus_replica.proofs.TimeLaws.{front_frames, knows, prefix_long}

-- a receiver that has read all words of the first frames was given all their items
items_read : (fs more : List Frame) (e : ReceiverView) → HasHeard (fs ++ more) e
    → length (log_words fs) ≤ e.place
    → IsPrefix (items_in (order_of fs).entries) (items_in (order_given e.answers).entries)
items_read fs more e heard far =
    let front = log_pieces fs in
    let behind = log_pieces more in
    let size = length-log_pieces fs in
    let n : ℕ = e.place - length front in
    let place : e.place ≡ length front + (e.place - length front) = omega (arith, size, far) in
    grind (arith, common_steps, take, flat_map-append, take-append-add, flat_map, order_in-log)

pub read : {C S A : Type 0} (IsFirst : S → Type 0) (Applies : Operations S A) (P : Process C)
    (Bus : Automaton C) (s m t : RuledTable P Bus)
    → IsPromised P Bus.table_layout (base_in Bus) (published m) m.table → (h : PageOf s)
    (k : PageOf t) → IsPrefix (published s) (published m) → IsPrefix (published m) (published t)
    → (old new : Replicated C S) (j : ℕ) → get_elem? t.table.views j ≡ some new.me.0
    → (caught : HasCaughtUp old.me new.me)
    → caught.got ≡ slice_index m.table.words length_at
    → IsFold IsFirst Applies new.me.0 new.state → IsRead IsFirst Applies h.order k.order new.state
read {C} IsFirst Applies P Bus s m t page h k on on' old new j at caught loaded fold =
    let w = new.me.0 in
    let e = receiver_view_in w in
    let a = h.spelled in
    let q = t.rule in
    let b = (knows P Bus q.state q.seat q.ear j w fold.heard (q.views j w at)).1 in
    let both : published s ++ (on.rest ++ on'.rest) ≡ published t =
    sym (append_assoc (published s) on.rest on'.rest) ∙ ap (λ z. z ++ on'.rest) on.together
    ∙ on'.together in
    let split = front_frames Bus.table_layout.senders 0 0 a.frames b.frames (on.rest ++ on'.rest)
    a.lawful b.lawful
    (ap (λ z. z ++ (on.rest ++ on'.rest)) a.words_are ∙ both ∙ sym b.words_are) in
    let size : length (log_words a.frames) ≡ length (published s) = ap length a.words_are in
    let long = prefix_long (published s) (published m) on in
    let whole = page.long in
    let reached = caught.reached in
    let heard = subst (λ z. HasHeard z e) split.1 b.heard in
    let all =
    items_read a.frames split.0 e heard (omega (arith, size, long, whole, reached, loaded)) in
    let given = items_given e.answers in
    let answers = e.answers in
    let promised = k.promises (λ r. answers) (λ r. inr (j, w, at, shows_own w fold.heard)) in
    record {
      first = fold.first;
      begins = fold.begins;
      items = items_heard w;
      folds = fold.folds;
      of_order = items_begin answers answers k.order (promised.delivered 0);
      behind = grind (arith, common_steps);
    }
