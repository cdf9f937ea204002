-- Orders: the one list of items and leave marks that all receivers are given parts of (total order,
-- and of each sender its own order, as in Hadzilacos and Toueg 1994).
use Rattle.std.specs.Prelude.{◌≡◌, ℕ, ◌-◌, ◌≤◌, List, [], ◌∷◌, ◌++◌, length, take, drop, map}
use Rattle.std.specs.Prelude.{filter, true, ◌==◌}
use Rattle.bus_register.specs.declared.registers.SenderNo.{SenderNo}
use Rattle.bus_batch.specs.declared.messages.Item.{Item}
use Rattle.bus_batch.specs.Frames.{Order, Entry, Says, Leaves, items_in}
use Rattle.bus_deliverylog.specs.declared.orders.Order as declared

-- items with the leave marks put in, each behind as many items as it says, where so many stand
-- before
abbrev pub merged_from : ℕ → List Item → List (SenderNo × ℕ) → List Entry
merged_from before items [] = map Says items
merged_from before items (mark ∷ marks) =
    map Says (take (mark.1 - before) items)
    ++ Leaves mark.0 ∷ merged_from mark.1 (drop (mark.1 - before) items) marks

-- items and leave marks as one list
abbrev pub merged : List Item → List (SenderNo × ℕ) → List Entry
merged items marks = merged_from 0 items marks

-- marks whose places rise, none below the first and none past the last
abbrev pub AreMarks : ℕ → ℕ → List (SenderNo × ℕ) → Type 0
AreMarks before last [] = Unit {0}
AreMarks before last (mark ∷ marks) =
    (before ≤ mark.1) × (mark.1 ≤ last) × AreMarks mark.1 last marks

-- the order that a program holds
abbrev pub order_held : declared.Order → Order
order_held order = record {
  entries = merged order.items.items order.left.items;
  ended = order.ended;
}

-- the places of its leave marks rise, and none is past its items
abbrev pub HasPlaces : declared.Order → Type 0
HasPlaces order = AreMarks 0 (length order.items.items) order.left.items

-- one order is a prefix of another: so are its entries, and an ended order extends to itself alone
pub record IsPrefixOfOrder (old new : Order) : Type 0 where
  pub later : List Entry
  pub entries : new.entries ≡ old.entries ++ later
  pub ended : old.ended ≡ true → old ≡ new

-- the items of one sender, in their order
abbrev pub of_sender : ℕ → Order → List Item
of_sender sender order = filter (λ item. item.sender.0 == sender) (items_in order.entries)
