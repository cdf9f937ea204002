-- Long operations of replicas, by tables that threads go by.
use Rattle.std.proofs.Common.{◌≡◌, ℕ, zero, suc, ◌≤◌, List, [], ◌∷◌, ◌++◌, Option, Some}
use Rattle.std.proofs.Common.{length, map, flat_map, take, drop, refl, sym, ap, subst, ◌∙◌, arith}
use Rattle.std.proofs.Common.{◌-◌, ◌/◌, Bool, None, inl, inr, append_assoc, filter, ◌==◌}
use Rattle.std.proofs.lemmas.List.{length-append, length-map}
use Rattle.std.proofs.lemmas.Bool.{cases_lt}
use mathlib.Core.Option.{some}
use lib.ListN.{get_elem?}
use Rattle.atomic_table.specs.Table.{State}
use Rattle.bus_register.specs.Protocol.{Protocol}
use Rattle.bus_adoptcommit.specs.ThreeWordKeeps.{three_word}
use Rattle.bus_adoptcommit.specs.declared.verdicts.Verdict.{Verdict}
use Rattle.bus_register.specs.declared.limits.TheConstants.{MOST_SENDERS}
use Rattle.bus_batch.specs.declared.messages.Item.{Item}
use Rattle.bus_batch.specs.Frames.{items_in}
use Rattle.bus_deliverylog.specs.Orders.{of_sender}
use Rattle.bus_tenure.specs.declared.pages.Page.{Page}
use Rattle.bus_world.specs.Headline.{IsPrefix, puts}
use Rattle.bus_world.specs.declared.shapes.Shape.{Shape}
use Rattle.bus_machine.specs.Playing.{layout_passed}
use Rattle.bus_automaton.specs.Buses.{automaton_with, plan_passers}
use Rattle.bus_automaton.specs.Lawful.{ProcessLaws, AutomatonLaws}
use Rattle.bus_automaton.specs.Processes.{Process, Automaton, TableLayout, base_in}
use Rattle.bus_automaton.specs.ThreeWordBuses.{automaton}
use Rattle.bus_automaton.specs.declared.plans.Plan.{Plan}
use Rattle.bus_pageslot.specs.Lasting.{RuledTable, published}
use Rattle.bus_pageslot.specs.Promised.{IsPromised}
use Rattle.bus_pageslot.specs.Seats.{actions_of}
use Rattle.bus_pageslot.specs.Turns.{Tellings}
use Rattle.bus_pageslot.specs.declared.rule.View.{View}
use Rattle.bus_long.specs.Joined.{long_order}
use Rattle.bus_long.specs.Pieces.{cut, pieces}
use Rattle.bus_long.specs.declared.pieces.TheConstants.{MOST_LONG_BYTES, PIECE_BYTES}
use Rattle.bus_replica.specs.Linearized.{IsLinearized, PageOf, SitsAt}
use Rattle.bus_replica.specs.Longs.{AppliesLong, ArePiecesOf, IsFirstLong, LongState}
use Rattle.bus_replica.specs.Replicas.{Operations, PutsAll, Replicated, StandsLast}
use Rattle.bus_replica.proofs.LinearLaws.{IsSeated, executed, seated}
use Rattle.bus_replica.proofs.LongLaws.{PieceLaws, AreBelow}
use Rattle.bus_replica.proofs.LongOrders.{long_linearized, own_front}
use Rattle.bus_replica.proofs.OwnLaws.{own_items, puts_on}

-- ---- pieces
record EndsIn (messages : List (List ℕ)) : Type 0 where
  front : List (List ℕ)
  last : List ℕ
  is : messages ≡ front ++ last ∷ []

-- there is a last one
cut_ends : (follow : ℕ) (bytes : List ℕ) → EndsIn (cut follow bytes)
cut_ends zero bytes = record { front = []; last = 0 ∷ bytes; is = refl }
cut_ends (suc follow) bytes =
    let rest = cut_ends follow (drop PIECE_BYTES bytes) in
    record {
      front = (suc follow ∷ take PIECE_BYTES bytes) ∷ rest.front;
      last = rest.last;
      is = ap (λ z. (suc follow ∷ take PIECE_BYTES bytes) ∷ z) rest.is;
    }

-- ---- workers
-- whoever has an item in the order is a worker of the bus
pub all_below : {C : Type 0} (P : Process C) (x : TableLayout) (base : ℕ → ℕ) (log : List ℕ)
    (s : State (Option Page) (View C)) (h : IsPromised P x base log s)
    → AreBelow x.senders (items_in h.order.entries)
all_below P x base log s h before after item stands =
    let worker = item.sender.0 in
    let page = h.promises (λ r. []) (λ r. inl refl) in
    let messages = page.faithful.messages worker in
    elim (cases_lt worker x.senders) [
      | inl below ↦ below
      | inr above ↦
          let m : Item → List ℕ = λ i. i.message in
          let p : Item → Bool = λ i. i.sender.0 == worker in
          let none = ap (λ z. length (puts z)) (h.nobody worker above) in
          let all = ap length messages.together in
          let parts = length-append (map m (of_sender worker h.order)) messages.rest in
          let mine = ap length (own_items worker h.order before after item stands refl) in
          let split = length-append (filter p before) (item ∷ filter p after) in
          let mapped = length-map (of_sender worker h.order) m in
          absurd (omega (arith, none, all, parts, mine, split, mapped))
    ]

-- how many a bus has
layout_senders : {S : Type 0} (P : Protocol S Bool Verdict) (shape : Shape) (reuse : Option ℕ)
    (passers : ℕ) → (layout_passed P shape reuse passers).senders ≡ shape.senders
layout_senders P shape None passers = refl
layout_senders P shape (Some rows) passers = refl

pub senders_are : (plan : Plan) → (automaton plan).table_layout.senders ≡ plan.shape.senders
unfolding automaton_with
senders_are plan = layout_senders three_word plan.shape plan.reuse (plan_passers plan)

-- ---- an execution
pub executed_long : {C S A : Type 0} (IsFirst : S → Type 0) (Applies : Operations S A)
    (P : Process C) (T : Tellings C) (Bus : Automaton C) → ProcessLaws P → AutomatonLaws P Bus
    → PieceLaws → (s t : RuledTable P Bus) (h : PageOf s) (k : PageOf t)
    → Bus.table_layout.senders ≤ MOST_SENDERS → IsPrefix (published s) (published t)
    → (old new : Replicated C (LongState S)) (operations : List (List ℕ)) (number : ℕ)
    (bytes : List ℕ) (answer : Option A) (j : ℕ) → SitsAt P s.table old.sender
    → SitsAt P t.table new.sender → get_elem? t.table.views j ≡ some new.me.0
    → ArePiecesOf operations (puts (actions_of P old.sender)) → length bytes ≤ MOST_LONG_BYTES
    → PutsAll P T old.sender new.sender number (pieces bytes)
    → StandsLast (IsFirstLong IsFirst) (AppliesLong Applies) new.me.0 new.state
    (P.me old.sender.core) number answer
    → (own : A) × (answer ≡ Some own)
    × IsLinearized IsFirst Applies (long_order h.order) (long_order k.order)
    (P.me old.sender.core) number bytes own new.state.state
executed_long {C} IsFirst Applies P T Bus laws lawful joins s t h k few on old new operations number
    bytes answer j sits sits' at are short put stands =
    let worker = P.me old.sender.core in
    let base = base_in Bus in
    let split = cut_ends ((length bytes - 1) / PIECE_BYTES) bytes in
    let front = split.front in
    let last = split.last in
    let seat = seated P Bus laws lawful s.table s.rule old.sender sits in
    let seat' : IsSeated P base t.table new.sender worker =
    subst (λ w. IsSeated P base t.table new.sender w) put.me_is
    (seated P Bus laws lawful t.table t.rule new.sender sits') in
    let put' : PutsAll P T old.sender new.sender number (front ++ last ∷ []) =
    subst (PutsAll P T old.sender new.sender number) split.is put in
    let l = executed (IsFirstLong IsFirst) (AppliesLong Applies) P T Bus laws lawful s t h k on old
    new number front last answer j sits sits' at put' stands in
    let page = k.promises (λ r. []) (λ r. inl refl) in
    let pre = flat_map pieces operations ++ front in
    let before = puts (actions_of P old.sender) in
    let start = seat.first in
    let counted = put'.number_is in
    let placed = l.number_is in
    let many = ap length are.all in
    let long = length-append (flat_map pieces operations) front in
    let ends = length-append front (last ∷ []) in
    let below : AreBelow MOST_SENDERS (items_in k.order.entries) =
    λ f b item e. omega (
      arith,
      few,
      all_below P Bus.table_layout base (published t) t.table k f b
          item e,
    ) in
    long_linearized IsFirst Applies joins h.order k.order worker number last answer new.state l
    below operations front bytes are.short short split.is
    (own_front (base worker) k.order (puts (actions_of P new.sender)) worker
    (page.faithful.numbered worker)
    (subst (λ p. IsPrefix (map (λ (i : Item). i.message) (of_sender p k.order))
    (puts (actions_of P new.sender))) seat'.me
    (puts_on P Bus.table_layout base (published t) t.table k seat'.place new.sender seat'.core
    seat'.trail seat'.notes seat'.at seat'.shows))
    l.before l.after l.item l.stands l.worker_is pre (last ∷ [])
    (put'.puts_are ∙ ap (λ z. z ++ (front ++ last ∷ [])) are.all
    ∙ sym (append_assoc (flat_map pieces operations) front (last ∷ [])))
    (omega (arith, start, counted, placed, many, long, ends)))
