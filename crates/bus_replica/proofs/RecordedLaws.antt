-- A sitting goes on from what was replayed, and what was written into a journal is replayed.
use Rattle.std.proofs.Common.{◌≡◌, ℕ, ◌≤◌, List, [], ◌∷◌, ◌++◌, length, flat_map, map, take, drop}
use Rattle.std.proofs.Common.{true, refl, sym, ◌∙◌, ap, subst, append_assoc, arith}
use Rattle.std.proofs.lemmas.Grind.{flat_map-append, common_steps}
use Rattle.std.proofs.lemmas.List.{append-nil, take-append-drop, take-append-le}
use mathlib.Core.Option.{some}
use lib.ListN.{get_elem?}
use Rattle.bus_batch.specs.declared.messages.Item.{Item}
use Rattle.bus_batch.specs.Frames.{AreFrames, Frame, Order, Says, frame_pieces, items_in}
use Rattle.bus_batch.specs.Frames.{log_pieces, log_words, order_of, piece_entries}
use Rattle.bus_batch.proofs.PieceLaws.{order_in-log}
use Rattle.bus_deliverylog.specs.Orders.{IsPrefixOfOrder}
use Rattle.bus_world.proofs.ReceivingLaws.{length-log_pieces}
use Rattle.bus_world.specs.Headline.{IsPrefix, order_given}
use Rattle.bus_automaton.specs.Processes.{Process, Automaton}
use Rattle.bus_pageslot.specs.Lasting.{RuledTable, published}
use Rattle.bus_pageslot.specs.ReceiverViews.{ReceiverView, HasHeard}
use Rattle.bus_pageslot.specs.Rule.{receiver_view_in}
use Rattle.bus_pageslot.specs.declared.rule.View.{View}
use Rattle.bus_replica.specs.Linearized.{IsLinearized, IsRead}
use Rattle.bus_replica.specs.OneOrder.{AreFunctions}
use Rattle.bus_replica.specs.Replicas.{Operations, Folds, Begins, LeadTo, Then, has_view}
use Rattle.bus_replica.specs.Replicas.{IsFold, StandsLast, items_heard}
use Rattle.bus_replica.specs.Sittings.{behind}
use Rattle.bus_replica.proofs.FunctionLaws.{folds_same, not_empty}
use Rattle.bus_replica.proofs.OrderLaws.{items_given}
use Rattle.bus_replica.proofs.TimeLaws.{front_frames, knows}

-- ---- words
-- a receiver that has read no word behind the first frames was given none but their items
items_within : (fs more : List Frame) (e : ReceiverView) → HasHeard (fs ++ more) e
    → e.place ≤ length (log_words fs)
    → IsPrefix (items_in (order_given e.answers).entries) (items_in (order_of fs).entries)
items_within fs more e heard near =
    let front = log_pieces fs in
    let size = length-log_pieces fs in
    let pieces : take e.place (log_pieces (fs ++ more)) ≡ take e.place front =
    ap (take e.place) (flat_map-append frame_pieces fs more)
    ∙ take-append-le e.place front (log_pieces more) (omega (arith, size, near)) in
    let first = flat_map piece_entries (take e.place front) in
    let later = flat_map piece_entries (drop e.place front) in
    let entries : (order_of fs).entries ≡ first ++ later =
    ap (λ (o : Order). o.entries) (sym (order_in-log fs))
    ∙ ap (flat_map piece_entries) (sym (take-append-drop e.place front))
    ∙ flat_map-append piece_entries (take e.place front) (drop e.place front) in
    grind (arith, common_steps, flat_map, flat_map-append)

pub within_words : {C : Type 0} (P : Process C) (A : Automaton C) (t : RuledTable P A) (j : ℕ)
    (v : View C) (fs : List Frame) → get_elem? t.table.views j ≡ some v → has_view v ≡ true
    → AreFrames A.table_layout.senders fs → IsPrefix (log_words fs) (published t)
    → (receiver_view_in v).place ≤ length (log_words fs)
    → IsPrefix (items_heard v) (items_in (order_of fs).entries)
within_words P A t j v fs at has lawful on near =
    let e = receiver_view_in v in
    let q = t.rule in
    let b = (knows P A q.state q.seat q.ear j v has (q.views j v at)).1 in
    grind (arith, common_steps, front_frames, items_within, items_given)

-- ---- two sittings
said : (items : List Item) → items_in (map Says items) ≡ items
said [] = refl
said (i ∷ items) = ap (λ z. i ∷ z) (said items)

items_behind : (replayed : List Item) (order : Order)
    → items_in (behind replayed order).entries ≡ replayed ++ items_in order.entries
items_behind replayed order = grind (arith, common_steps, flat_map-append, map, said)

folds_on : {S A : Type 0} (Applies : Operations S A) (first middle : S) (items more : List Item)
    (last : S) → Folds Applies first items middle → Folds Applies middle more last
    → Folds Applies first (items ++ more) last
folds_on Applies first middle items _ _ f Begins =
    subst (λ z. Folds Applies first z middle) (sym (append-nil items)) f
folds_on Applies first middle items _ _ f (Then more old item answer new before applied) =
    subst (λ z. Folds Applies first z new) (append_assoc items more (item ∷ []))
    (Then (items ++ more) old item answer new
    (folds_on Applies first middle items more old f before) applied)

begins_more : {A : Type 0} (front xs ys : List A) → IsPrefix xs ys
    → IsPrefix (front ++ xs) (front ++ ys)
begins_more front xs ys p = grind (arith, common_steps, append_assoc)

module _ {S A : Type 0} (IsFirst : S → Type 0) (Applies : Operations S A) where
  pub led_on : (replayed items : List Item) (state : S)
      → LeadTo (LeadTo IsFirst Applies replayed) Applies items state
      → LeadTo IsFirst Applies (replayed ++ items) state
  led_on replayed items state l = grind (arith, common_steps, folds_on)

  -- an execution stands behind all that begins what was replayed
  executed_behind : (replayed : List Item) (earlier later order : Order) (worker number : ℕ)
      (bytes : List ℕ) (answer : A) (state : S)
      → (l : IsLinearized (LeadTo IsFirst Applies replayed) Applies earlier later worker number
      bytes answer state) → IsPrefix (items_in order.entries) (replayed ++ l.before)
      → IsLinearized IsFirst Applies order (behind replayed later) worker number bytes answer state
  executed_behind replayed earlier later order worker number bytes answer state l far =
      grind (arith, common_steps, items_behind, append_assoc, folds_on)

  read_behind : (replayed : List Item) (earlier later order : Order) (state : S)
      → (l : IsRead (LeadTo IsFirst Applies replayed) Applies earlier later state)
      → IsPrefix (items_in order.entries) (replayed ++ l.items)
      → IsRead IsFirst Applies order (behind replayed later) state
  read_behind replayed earlier later order state l far =
      grind (arith, common_steps, begins_more, folds_on, items_behind)

  -- of one sitting and what was replayed before it
  all_behind : (replayed : List Item) (earlier : Order) (before : List Item)
      → IsPrefix (items_in earlier.entries) before
      → IsPrefix (items_in (behind replayed earlier).entries) (replayed ++ before)
  all_behind replayed earlier before p = grind (arith, common_steps, items_behind, begins_more)

  pub one_executed : (replayed : List Item) (earlier later : Order) (worker number : ℕ)
      (bytes : List ℕ) (answer : A) (state : S)
      → IsLinearized (LeadTo IsFirst Applies replayed) Applies earlier later worker number bytes
      answer state → IsLinearized IsFirst Applies (behind replayed earlier)
      (behind replayed later) worker number bytes answer state
  one_executed replayed earlier later worker number bytes answer state l =
      executed_behind replayed earlier later (behind replayed earlier) worker number bytes answer
      state l (all_behind replayed earlier l.before l.behind)

  pub one_read : (replayed : List Item) (earlier later : Order) (state : S)
      → IsRead (LeadTo IsFirst Applies replayed) Applies earlier later state
      → IsRead IsFirst Applies (behind replayed earlier) (behind replayed later) state
  one_read replayed earlier later state l =
      read_behind replayed earlier later (behind replayed earlier) state l
      (all_behind replayed earlier l.items l.behind)

  pub led_functions : (replayed : List Item) → AreFunctions IsFirst Applies
      → AreFunctions (LeadTo IsFirst Applies replayed) Applies
  led_functions replayed F = grind (arith, common_steps, folds_same)

  -- what was replayed before, and was written, comes first in all that is replayed
  written : (before : List Item) (old new : Order) (more : List Item) → IsPrefixOfOrder old new
      → IsPrefix (items_in (behind before old).entries)
      ((before ++ items_in new.entries) ++ more)
  written before old new more p =
      grind (arith, common_steps, flat_map-append, items_behind, append_assoc)

  pub recorded_executed : (before : List Item) (order told earlier later : Order)
      (worker number : ℕ) (bytes : List ℕ) (answer : A) (state : S) → IsPrefixOfOrder order told
      → IsLinearized (LeadTo IsFirst Applies (before ++ items_in told.entries)) Applies earlier
      later worker number bytes answer state → IsLinearized IsFirst Applies (behind before order)
      (behind (before ++ items_in told.entries) later) worker number bytes answer state
  recorded_executed before order told earlier later worker number bytes answer state p l =
      executed_behind (before ++ items_in told.entries) earlier later (behind before order) worker
      number bytes answer state l (written before order told l.before p)

  pub recorded_read : (before : List Item) (order told earlier later : Order) (state : S)
      → IsPrefixOfOrder order told
      → IsRead (LeadTo IsFirst Applies (before ++ items_in told.entries)) Applies earlier later
      state → IsRead IsFirst Applies (behind before order)
      (behind (before ++ items_in told.entries) later) state
  recorded_read before order told earlier later state p l =
      read_behind (before ++ items_in told.entries) earlier later (behind before order) state l
      (written before order told l.items p)

-- an order that begins another has its operations first
pub recorded_items : (old new : Order) → IsPrefixOfOrder old new
    → IsPrefix (items_in old.entries) (items_in new.entries)
recorded_items old new p = grind (arith, common_steps, flat_map-append)

-- where nothing was replayed
none_led : {S A : Type 0} (IsFirst : S → Type 0) (Applies : Operations S A) (items : List Item)
    (first state : S) → items ≡ [] → Folds Applies first items state → IsFirst first
    → IsFirst state
none_led IsFirst Applies _ _ _ e Begins is = is
none_led IsFirst Applies _ _ _ e (Then items old item answer new before applied) is =
    absurd (not_empty items item (sym e))

pub led_by_none : {S A : Type 0} (IsFirst : S → Type 0) (Applies : Operations S A) (state : S)
    → LeadTo IsFirst Applies [] state → IsFirst state
led_by_none IsFirst Applies state l =
    none_led IsFirst Applies [] l.first state refl l.folds l.begins

module _ {C S A : Type 0} (IsFirst : S → Type 0) (Applies : Operations S A) (v : View C)
    (state : S) where
  pub fold_first : IsFold (LeadTo IsFirst Applies []) Applies v state
      → IsFold IsFirst Applies v state
  fold_first f = grind (arith, common_steps, led_by_none)

  pub stands_first : (worker number : ℕ) (answer : A)
      → StandsLast (LeadTo IsFirst Applies []) Applies v state worker number answer
      → StandsLast IsFirst Applies v state worker number answer
  stands_first worker number answer s = grind (arith, common_steps, led_by_none)
