-- The item of a worker's own number has the bytes that it put.
use Rattle.std.proofs.Common.{◌≡◌, ℕ, ◌+◌, Bool, true, ◌==◌, Some, List, [], ◌∷◌, ◌++◌, length, map}
use Rattle.std.proofs.Common.{filter, slice_get, refl, sym, ◌∙◌, ap, subst, arith, append_assoc}
use Rattle.std.proofs.lemmas.List.Elements.{filter-append}
use Rattle.std.proofs.lemmas.List.{map-append, length-map}
use Rattle.std.proofs.lemmas.Bool.{eq-eqb}
use Rattle.bus_batch.specs.declared.messages.Item.{Item}
use Rattle.bus_batch.specs.Frames.{Order, items_in}
use Rattle.bus_deliverylog.specs.Orders.{of_sender}
use Rattle.std.proofs.Common.{inl, inr, Option}
use Rattle.std.proofs.lemmas.Grind.{flat_map-append, common_steps}
use mathlib.Core.Option.{some}
use lib.ListN.{get_elem?}
use Rattle.atomic_table.specs.Table.{State}
use Rattle.bus_tenure.specs.declared.pages.Page.{Page}
use Rattle.bus_world.specs.Headline.{IsPrefix, puts}
use Rattle.bus_automaton.specs.Processes.{Process, TableLayout}
use Rattle.bus_automaton.specs.SenderTrails.{SenderTrail}
use Rattle.bus_pageslot.specs.Notes.{Notes}
use Rattle.bus_pageslot.specs.Promised.{IsPromised, Fits}
use Rattle.bus_pageslot.specs.Rule.{receiver_view_in}
use Rattle.bus_pageslot.specs.Seats.{SenderSeat, first_number_of, actions_of}
use Rattle.bus_pageslot.specs.Turns.{Tellings}
use Rattle.bus_pageslot.specs.declared.rule.View.{View}
use Rattle.bus_pageslot.specs.declared.rule.View.TheVariants.{Sender}
use Rattle.bus_replica.specs.Replicas.{Operations, StandsLast, PutsMore, has_view}
use Rattle.bus_replica.proofs.OrderLaws.{items_begin, shows_own}

pub at_place : {A : Type 0} (xs ys : List A) (x : A) → slice_get (xs ++ x ∷ ys) (length xs) ≡ Some x
at_place [] ys x = refl
at_place (z ∷ xs) ys x = at_place xs ys x

same_place : {A : Type 0} (xs ys us vs : List A) (x u : A) → length xs ≡ length us
    → xs ++ x ∷ ys ≡ us ++ u ∷ vs → x ≡ u
same_place [] ys [] vs x u l e = cc
same_place [] ys (w ∷ us) vs x u l e = absurd (omega (arith, l))
same_place (z ∷ xs) ys [] vs x u l e = absurd (omega (arith, l))
same_place (z ∷ xs) ys (w ∷ us) vs x u l e =
    same_place xs ys us vs x u (omega (arith, l)) (cc)

-- of the items of one sender this is the one behind those before it
pub own_items : (s : ℕ) (order : Order) (before later : List Item) (item : Item)
    → items_in order.entries ≡ before ++ item ∷ later → item.sender.0 ≡ s
    → of_sender s order
    ≡ filter (λ i. i.sender.0 == s) before ++ item ∷ filter (λ i. i.sender.0 == s) later
own_items s order before later item all own =
    grind (arith, common_steps, filter, filter-append, eq-eqb)

pub own_bytes : (first : ℕ) (order : Order) (puts_are : List (List ℕ)) (s : ℕ)
    → ((k : ℕ) (i : Item) → slice_get (of_sender s order) k ≡ Some i → i.number ≡ first + k)
    → IsPrefix (map (λ (i : Item). i.message) (of_sender s order)) puts_are
    → (before later : List Item) (item : Item)
    → items_in order.entries ≡ before ++ item ∷ later → item.sender.0 ≡ s
    → (pre post : List (List ℕ)) (bytes : List ℕ) → puts_are ≡ pre ++ bytes ∷ post
    → item.number ≡ first + length pre → item.message ≡ bytes
own_bytes first order all_puts s numbers messages before later item all own pre post bytes puts_are
    number =
    let p : Item → Bool = λ i. i.sender.0 == s in
    let m : Item → List ℕ = λ i. i.message in
    let mine = own_items s order before later item all own in
    let F = filter p before in
    let L = filter p later in
    let at : slice_get (of_sender s order) (length F) ≡ Some item =
    ap (λ z. slice_get z (length F)) mine ∙ at_place F L item in
    grind (arith, common_steps, length, map, length-map, same_place, append_assoc, map-append)

-- ---- of a table
-- the messages of a sender in the order are the first that its seat shows as put
pub puts_on : {C : Type 0} (P : Process C) (x : TableLayout) (base : ℕ → ℕ) (log : List ℕ)
    (s : State (Option Page) (View C)) (h : IsPromised P x base log s) (j : ℕ)
    (seat : SenderSeat C) (c : C) (trail : SenderTrail) (notes : Notes)
    → get_elem? s.views j ≡ some seat.seat.me.0 → seat.seat.me.0 ≡ Sender c trail notes
    → IsPrefix (map (λ (i : Item). i.message) (of_sender (P.me c) h.order))
    (puts (actions_of P seat))
puts_on {C} P x base log s h j seat c trail notes at' view =
    let page = h.promises (λ r. []) (λ r. inl refl) in
    let shown : h.actions (P.me c) ≡ trail.actions =
    subst (Fits P h.actions log) view (h.views j seat.seat.me.0 at') in
    grind (arith, common_steps, append_assoc, map, flat_map-append)

pub own_operation : {C S A : Type 0} (IsFirst : S → Type 0) (Applies : Operations S A)
    (P : Process C) (T : Tellings C) (x : TableLayout) (base : ℕ → ℕ) (log : List ℕ)
    (s : State (Option Page) (View C))
    (h : IsPromised P x base log s) (i j : ℕ) (v : View C) (old seat : SenderSeat C) (c : C)
    (trail : SenderTrail) (notes : Notes) (state : S) (number : ℕ) (bytes : List ℕ) (answer : A)
    → get_elem? s.views i ≡ some v → has_view v ≡ true
    → get_elem? s.views j ≡ some seat.seat.me.0 → seat.seat.me.0 ≡ Sender c trail notes
    → first_number_of P seat ≡ base (P.me c) → PutsMore P T old seat number bytes
    → (last : StandsLast IsFirst Applies v state (P.me c) number answer)
    → last.item.message ≡ bytes
own_operation IsFirst Applies P T x base log s h i j v old seat c trail notes state number bytes
    answer at has at' view first put last =
    let answers = (receiver_view_in v).answers in
    let page = h.promises (λ r. answers) (λ r. inr (i, v, at, shows_own v has)) in
    let front = items_begin answers answers h.order (page.delivered 0) in
    let put_number = put.number_is in
    let put_first = put.first_is in
    let item_number = last.number_is in
    own_bytes (base (P.me c)) h.order (puts (actions_of P seat)) (P.me c)
    (page.faithful.numbered (P.me c)) (puts_on P x base log s h j seat c trail notes at' view)
    last.before front.rest last.item
    (sym front.together ∙ ap (λ z. z ++ front.rest) last.items_are
    ∙ append_assoc last.before (last.item ∷ []) front.rest)
    last.worker_is (puts (actions_of P old)) [] bytes put.puts_are
    (omega (arith, put_number, put_first, item_number, first))
