-- The long messages of items: of each sender, those that its messages come to.
use Rattle.std.proofs.Common.{◌≡◌, ℕ, ◌≤◌, Bool, true, false, List, [], ◌∷◌, ◌++◌, length, map}
use Rattle.std.proofs.Common.{filter, flat_map, All, Option, Some, None, ◌==◌, refl, ap, sym, ◌∙◌}
use Rattle.std.proofs.Common.{append_assoc, append-nil, inl, inr, eqb-true}
use Rattle.std.proofs.lemmas.Bool.{cases_Bool, cond-true, cond-false}
use Rattle.std.proofs.lemmas.List.{map-append}
use Rattle.std.proofs.lemmas.List.Elements.{filter-append}
use Rattle.bus_batch.specs.declared.messages.Item.{Item}
use Rattle.bus_long.specs.declared.pieces.TheConstants.{MOST_LONG_BYTES}
use Rattle.bus_long.specs.Pieces.{nothing, pieces, whole_by, begun_by, listed, begun, joined}
use Rattle.bus_long.specs.Joined.{sent_by, whole_item, whole_behind, longs_behind, longs}
use Rattle.bus_long.proofs.Joining.{begun-append, first_joined}

-- ---- items behind others

pub longs-append : (before items more : List Item) → longs_behind before (items ++ more)
    ≡ longs_behind before items ++ longs_behind (before ++ items) more
longs-append before [] more = ap (λ z. longs_behind z more) (sym (append-nil before))
longs-append before (item ∷ items) more =
    let k = longs-append (before ++ item ∷ []) items more in
    ap (λ z. whole_behind before item ++ z)
    (k ∙ ap (λ z. longs_behind (before ++ item ∷ []) items ++ longs_behind z more)
    (append_assoc before (item ∷ []) items))
    ∙ sym (append_assoc (whole_behind before item)
    (longs_behind (before ++ item ∷ []) items) (longs_behind (before ++ item ∷ items) more))

pub longs_grow : (items more : List Item)
    → longs (items ++ more) ≡ longs items ++ longs_behind items more
longs_grow items more = longs-append [] items more

pub longs_one : (items : List Item) (item : Item)
    → longs (items ++ item ∷ []) ≡ longs items ++ whole_behind items item
longs_one items item =
    longs_grow items (item ∷ []) ∙ ap (λ z. longs items ++ z) (append-nil (whole_behind items item))

-- ---- the messages of one sender

sent-append : (sender : ℕ) (xs ys : List Item)
    → sent_by sender (xs ++ ys) ≡ sent_by sender xs ++ sent_by sender ys
sent-append sender xs ys =
    let own : Item → Bool = λ item. item.sender.0 == sender in
    ap (λ z. map (λ (item : Item). item.message) z) (filter-append own xs ys)
    ∙ map-append (λ (item : Item). item.message) (filter own xs) (filter own ys)

sent_here : (sender : ℕ) (item : Item) (items : List Item) → (item.sender.0 == sender) ≡ true
    → sent_by sender (item ∷ items) ≡ item.message ∷ sent_by sender items
sent_here sender item items is =
    let rest = filter (λ (item : Item). item.sender.0 == sender) items in
    ap (λ z. map (λ (item : Item). item.message) z)
    (cond-true (item.sender.0 == sender) (item ∷ rest) rest is)

sent_beside : (sender : ℕ) (item : Item) (items : List Item)
    → (item.sender.0 == sender) ≡ false → sent_by sender (item ∷ items) ≡ sent_by sender items
sent_beside sender item items is =
    let rest = filter (λ (item : Item). item.sender.0 == sender) items in
    ap (λ z. map (λ (item : Item). item.message) z)
    (cond-false (item.sender.0 == sender) (item ∷ rest) rest is)

whole_here : (sender : ℕ) (item : Item) (w : Option (List ℕ)) → (item.sender.0 == sender) ≡ true
    → sent_by sender (whole_item item w) ≡ listed w
whole_here sender item None is = refl
whole_here sender item (Some bytes) is =
    sent_here sender (record item { message = bytes }) [] is

whole_beside : (sender : ℕ) (item : Item) (w : Option (List ℕ))
    → (item.sender.0 == sender) ≡ false → sent_by sender (whole_item item w) ≡ []
whole_beside sender item None is = refl
whole_beside sender item (Some bytes) is =
    sent_beside sender (record item { message = bytes }) [] is

-- what a sender has begun behind items, and its messages of further items
came : (sender : ℕ) (before items : List Item) → List (List ℕ)
came sender before items = joined (begun nothing (sent_by sender before)) (sent_by sender items)

came_here : (sender : ℕ) (before : List Item) (item : Item) (items : List Item)
    → (item.sender.0 == sender) ≡ true
    → came sender before (item ∷ items)
    ≡ sent_by sender (whole_behind before item) ++ came sender (before ++ item ∷ []) items
unfolding came
came_here sender before item items is =
    let b = begun nothing (sent_by sender before) in
    let whole : sent_by sender (whole_behind before item) ≡ listed (whole_by b item.message) =
    whole_here sender item
    (whole_by (begun nothing (sent_by item.sender.0 before)) item.message) is
    ∙ ap (λ z. listed (whole_by (begun nothing (sent_by z before)) item.message))
    (eqb-true item.sender.0 sender is) in
    let then : begun nothing (sent_by sender (before ++ item ∷ [])) ≡ begun_by b item.message =
    ap (λ z. begun nothing z) (sent-append sender before (item ∷ [])
    ∙ ap (λ z. sent_by sender before ++ z) (sent_here sender item [] is))
    ∙ begun-append nothing (sent_by sender before) (item.message ∷ []) in
    ap (λ z. joined b z) (sent_here sender item items is)
    ∙ ap (λ z. z ++ joined (begun_by b item.message) (sent_by sender items)) (sym whole)
    ∙ ap (λ z. sent_by sender (whole_behind before item) ++ joined z (sent_by sender items))
    (sym then)

came_beside : (sender : ℕ) (before : List Item) (item : Item) (items : List Item)
    → (item.sender.0 == sender) ≡ false
    → came sender before (item ∷ items)
    ≡ sent_by sender (whole_behind before item) ++ came sender (before ++ item ∷ []) items
unfolding came
came_beside sender before item items is =
    let b = begun nothing (sent_by sender before) in
    let whole : sent_by sender (whole_behind before item) ≡ [] =
    whole_beside sender item
    (whole_by (begun nothing (sent_by item.sender.0 before)) item.message) is in
    let then : begun nothing (sent_by sender (before ++ item ∷ [])) ≡ b =
    ap (λ z. begun nothing z) (sent-append sender before (item ∷ [])
    ∙ ap (λ z. sent_by sender before ++ z) (sent_beside sender item [] is)
    ∙ append-nil (sent_by sender before)) in
    ap (λ z. joined b z) (sent_beside sender item items is)
    ∙ ap (λ z. z ++ joined b (sent_by sender items)) (sym whole)
    ∙ ap (λ z. sent_by sender (whole_behind before item) ++ joined z (sent_by sender items))
    (sym then)

came_one : (sender : ℕ) (before : List Item) (item : Item) (items : List Item)
    → came sender before (item ∷ items)
    ≡ sent_by sender (whole_behind before item) ++ came sender (before ++ item ∷ []) items
came_one sender before item items = elim (cases_Bool (item.sender.0 == sender)) [
  | inl is ↦ came_here sender before item items is
  | inr is ↦ came_beside sender before item items is
]

came_all : (sender : ℕ) (before items : List Item)
    → sent_by sender (longs_behind before items) ≡ came sender before items
unfolding came
came_all sender before [] = refl
came_all sender before (item ∷ items) =
    sent-append sender (whole_behind before item) (longs_behind (before ++ item ∷ []) items)
    ∙ ap (λ z. sent_by sender (whole_behind before item) ++ z)
    (came_all sender (before ++ item ∷ []) items)
    ∙ sym (came_one sender before item items)

pub longs_joined : (sender : ℕ) (items : List Item)
    → sent_by sender (longs items) ≡ joined nothing (sent_by sender items)
unfolding came
longs_joined sender items = came_all sender [] items

pub longs_whole : (sender : ℕ) (items : List Item) (messages more : List (List ℕ))
    → All (λ m. length m ≤ MOST_LONG_BYTES) messages
    → sent_by sender items ++ more ≡ flat_map pieces messages
    → (rest : List (List ℕ)) × (sent_by sender (longs items) ++ rest ≡ messages)
longs_whole sender items messages more all is =
    let k = first_joined messages (sent_by sender items) more all is in
    (k.0, ap (λ z. z ++ k.0) (longs_joined sender items) ∙ k.1)
