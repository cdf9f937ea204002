-- What a listener has counted of answers in a row, from nothing on.
use Rattle.std.specs.Prelude.{ℕ, Bool, false, List, [], ◌∷◌, ◌++◌, ◌==◌, ◌&&◌, ◌||◌, if◌then◌else◌}
use Rattle.bus_batch.specs.declared.messages.Item.{Item}
use Rattle.bus_deliverylog.specs.declared.receiving.RecvTurn.{RecvTurn}
use Rattle.bus_deliverylog.specs.declared.receiving.RecvTurn.TheVariants as turn
use Rattle.bus_receiver.specs.Hearing.{Hearing, takes, hearing_after}

-- after one answer, taken or refused
abbrev pub hears : Hearing → RecvTurn → Hearing
hears h t = if takes h t then hearing_after h t else h

abbrev pub item_in : RecvTurn → List Item
item_in turn.Going = []
item_in turn.Empty = []
item_in (turn.Head tenure owner) = []
item_in (turn.Item item) = item ∷ []
item_in (turn.Leave sender) = []
item_in turn.End = []

abbrev pub item_taken : Hearing → RecvTurn → List Item
item_taken h t = if takes h t then item_in t else []

-- after any answers, and the items among those that were taken
abbrev pub hearing_after_all : Hearing → List RecvTurn → Hearing
hearing_after_all h [] = h
hearing_after_all h (t ∷ turns) = hearing_after_all (hears h t) turns

abbrev pub items_taken : Hearing → List RecvTurn → List Item
items_taken h [] = []
items_taken h (t ∷ turns) = item_taken h t ++ items_taken (hears h t) turns

-- it is the leave mark of this sender
abbrev pub is_leave_of : ℕ → RecvTurn → Bool
is_leave_of sender turn.Going = false
is_leave_of sender turn.Empty = false
is_leave_of sender (turn.Head tenure owner) = false
is_leave_of sender (turn.Item item) = false
is_leave_of sender (turn.Leave owner) = owner.0 == sender
is_leave_of sender turn.End = false

-- the leave mark of this sender is among the answers that were taken
abbrev pub takes_leave : ℕ → Hearing → List RecvTurn → Bool
takes_leave sender h [] = false
takes_leave sender h (t ∷ turns) =
    (takes h t && is_leave_of sender t) || takes_leave sender (hears h t) turns
