-- What is put after a moment stands in the order behind all that stood there then.
use Rattle.std.proofs.Common.{◌≡◌, ℕ, zero, suc, ◌+◌, ◌≤◌, ◌⊎◌, inl, inr, Bool, ◌==◌, Some, Option}
use Rattle.std.proofs.Common.{List, [], ◌∷◌, ◌++◌, length, map, filter, flat_map, slice_get, refl}
use Rattle.std.proofs.Common.{sym, ◌∙◌, ap, append_assoc, arith}
use Rattle.std.proofs.lemmas.Grind.{flat_map-append, common_steps}
use Rattle.std.proofs.lemmas.List.{length-append, length-map}
use Rattle.std.proofs.lemmas.Option.{same_Some}
use Rattle.atomic_table.specs.Table.{State}
use Rattle.bus_batch.specs.declared.messages.Item.{Item}
use Rattle.bus_register.specs.declared.registers.SenderNo.{SenderNo}
use Rattle.bus_batch.specs.Frames.{Frame, Order, Spells, items_in, order_of}
use Rattle.bus_deliverylog.specs.Orders.{of_sender}
use Rattle.bus_tenure.specs.declared.pages.Page.{Page}
use Rattle.bus_world.specs.Headline.{IsPrefix, puts}
use Rattle.bus_automaton.specs.Processes.{Process, TableLayout}
use Rattle.bus_pageslot.specs.Promised.{IsPromised}
use Rattle.bus_pageslot.specs.declared.rule.View.{View}
use Rattle.bus_replica.proofs.OwnLaws.{own_items, at_place}
use Rattle.bus_replica.proofs.TimeLaws.{front_frames}

-- an element of two lists is behind the first, or in it
front_at : {A : Type 0} (xs ys : List A) (place : ℕ) (x : A) → slice_get (xs ++ ys) place ≡ Some x
    → (length xs ≤ place) ⊎ ((before : List A) × (later : List A) × (xs ≡ before ++ x ∷ later))
front_at [] ys place x at = inl (omega arith)
front_at (z ∷ xs) ys zero x at = inr ([], xs, ap (λ w. w ∷ xs) (same_Some z x at))
front_at (z ∷ xs) ys (suc place) x at = elim (front_at xs ys place x at) [
  | inl l ↦ inl (omega (arith, l))
  | inr i ↦ inr (z ∷ i.0, i.1, ap (λ w. z ∷ w) i.2)
]

-- the order of a longer log goes on from that of the log
pub items_of_more : (fs more : List Frame)
    → items_in (order_of (fs ++ more)).entries
    ≡ items_in (order_of fs).entries ++ items_in (order_of more).entries
items_of_more fs more = grind (arith, common_steps, flat_map-append, flat_map)

-- the order that a log spells begins that of a longer one
pub orders_on : (senders : ℕ) (log log' : List ℕ) (order later : Order)
    (owners owners' : List (ℕ × SenderNo)) → Spells senders log order owners
    → Spells senders log' later owners' → IsPrefix log log'
    → IsPrefix (items_in order.entries) (items_in later.entries)
orders_on senders log log' order later owners owners' a b on =
    grind (arith, common_steps, front_frames, items_of_more)

-- An item of a sender that had fewer in the one order stands in a later one behind all of that,
-- where the items of each are numbered.
pub stands_after : (order later : Order)
    → IsPrefix (items_in order.entries) (items_in later.entries)
    → (p first place : ℕ) (item : Item)
    → ((k : ℕ) (i : Item) → slice_get (of_sender p later) k ≡ Some i → i.number ≡ first + k)
    → slice_get (items_in later.entries) place ≡ Some item → item.sender.0 ≡ p
    → first + length (of_sender p order) ≤ item.number → length (items_in order.entries) ≤ place
stands_after order later on p first place item numbers at own put =
    elim (front_at (items_in order.entries) on.rest place item
    (ap (λ z. slice_get z place) on.together ∙ at)) [
      | inl l ↦ l
      | inr i ↦ absurd (
          let q : Item → Bool = λ i. i.sender.0 == p in
          let mine = own_items p order i.0 i.1 item i.2 own in
          let all : items_in later.entries ≡ i.0 ++ item ∷ (i.1 ++ on.rest) =
          sym on.together ∙ ap (λ z. z ++ on.rest) i.2
          ∙ append_assoc i.0 (item ∷ i.1) on.rest in
          let also = own_items p later i.0 (i.1 ++ on.rest) item all own in
          let numbered = numbers (length (filter q i.0)) item
          (ap (λ z. slice_get z (length (filter q i.0))) also
          ∙ at_place (filter q i.0) (filter q (i.1 ++ on.rest)) item) in
          let long = ap length mine ∙ length-append (filter q i.0) (item ∷ filter q i.1) in
          let last : length (item ∷ filter q i.1) ≡ suc (length (filter q i.1)) = refl in
          omega (arith, numbered, long, last, put))
    ]

-- a sender has put at least what an order has of it that begins with its puts
pub puts_cover : (items : List Item) (puts_are : List (List ℕ))
    → IsPrefix (map (λ (i : Item). i.message) items) puts_are → length items ≤ length puts_are
puts_cover items puts_are h = grind (arith, common_steps, length-map, length-append, map, length)

pub stands_behind : {C : Type 0} (P : Process C) (x : TableLayout) (base : ℕ → ℕ)
    (log log' : List ℕ)
    (s t : State (Option Page) (View C)) (h : IsPromised P x base log s)
    (k : IsPromised P x base log' t) → IsPrefix log log' → (p place : ℕ) (item : Item)
    → slice_get (items_in k.order.entries) place ≡ Some item → item.sender.0 ≡ p
    → base p + length (puts (h.actions p)) ≤ item.number
    → length (items_in h.order.entries) ≤ place
stands_behind P x base log log' s t h k later p place item at own put =
    let page = h.promises (λ r. []) (λ r. inl refl) in
    let page' = k.promises (λ r. []) (λ r. inl refl) in
    let few = puts_cover (of_sender p h.order) (puts (h.actions p)) (page.faithful.messages p) in
    stands_after h.order k.order
    (orders_on x.senders log log' h.order k.order h.owners k.owners h.spelled k.spelled later) p
    (base p) place item (page'.faithful.numbered p) at own (omega (arith, few, put))
