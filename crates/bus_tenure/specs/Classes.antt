-- What the answer to a turn says of the turns behind it.
use Rattle.std.specs.Prelude.{ℕ, Bool, List, [], ◌∷◌, ◌==◌}
use Rattle.std.specs.List.{list_any}
use Rattle.bus_tenure.specs.declared.turns.Turn.{Turn}
use Rattle.bus_tenure.specs.declared.turns.Turn.TheVariants as turn

-- A step was taken, and more are to come; or an election has an owner. Or another sender has to go
-- on first: the one that holds the page, or one that pins a tenure still. Or there is nothing more
-- to do. Or nothing more can be done, and messages may wait still.
pub data Class : Type 0 where
  Goes : Class
  Tells : Class
  Waits : Class
  Ends : Class
  Refused : Class

abbrev pub class_of : Turn → Class
class_of turn.Idle = Ends
class_of turn.Waiting = Waits
class_of turn.Going = Goes
class_of (turn.Lost tenure owner) = Tells
class_of (turn.Own tenure) = Tells
class_of (turn.Delivered tenure first last) = Ends
class_of (turn.Left tenure) = Ends
class_of turn.Full = Refused
class_of turn.Closed = Refused
class_of turn.Spent = Refused
class_of (turn.Behind tenure sender) = Waits

abbrev rank : Class → ℕ
rank Goes = 0
rank Tells = 1
rank Waits = 2
rank Ends = 3
rank Refused = 4

abbrev pub is_one_of : List Class → Class → Bool
is_one_of classes class = list_any (λ c. rank c == rank class) classes

abbrev pub still_goes : Turn → Bool
still_goes answer = is_one_of (Goes ∷ []) (class_of answer)

abbrev pub is_waiting : Turn → Bool
is_waiting answer = is_one_of (Waits ∷ []) (class_of answer)

abbrev pub is_last : Turn → Bool
is_last answer = is_one_of (Ends ∷ Refused ∷ []) (class_of answer)

abbrev pub is_refusal : Turn → Bool
is_refusal answer = is_one_of (Refused ∷ []) (class_of answer)
