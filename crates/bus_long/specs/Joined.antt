-- The long messages of an order: each item that makes one whole becomes it.
use Rattle.std.specs.Prelude.{ℕ, List, [], ◌∷◌, ◌++◌, map, Option, Some, None, ◌==◌, filter}
use Rattle.bus_batch.specs.declared.messages.Item.{Item}
use Rattle.bus_batch.specs.Frames.{Order, Says, items_in}
use Rattle.bus_long.specs.Pieces.{nothing, begun, whole_by}

-- the messages of one sender among items
abbrev pub sent_by : ℕ → List Item → List (List ℕ)
sent_by sender items =
    map (λ (item : Item). item.message) (filter (λ item. item.sender.0 == sender) items)

-- an item with the bytes of the long message that is whole with it, if one is
abbrev pub whole_item : Item → Option (List ℕ) → List Item
whole_item item None = []
whole_item item (Some bytes) = record item { message = bytes } ∷ []

-- what an item comes to behind others
abbrev pub whole_behind : List Item → Item → List Item
whole_behind before item =
    whole_item item (whole_by (begun nothing (sent_by item.sender.0 before)) item.message)

-- The long messages of items that stand behind others. Each has the sender and the number of its
-- last piece, and stands where that does.
abbrev pub longs_behind : List Item → List Item → List Item
longs_behind before [] = []
longs_behind before (item ∷ items) =
    whole_behind before item ++ longs_behind (before ++ item ∷ []) items

abbrev pub longs : List Item → List Item
longs items = longs_behind [] items

-- so the order of long messages
abbrev pub long_order : Order → Order
long_order order =
    record { entries = map Says (longs (items_in order.entries)); ended = order.ended }
