-- How bytes, items and the answers of a receiver are written.
use Rattle.std.specs.Prelude.{ℕ, ◌+◌, ◌/◌, ◌%◌, List, [], ◌∷◌, ◌++◌, codes, decimal, flat_map}
use Rattle.std.specs.Prelude.{nat_lt, if◌then◌else◌}
use Rattle.bus_batch.specs.declared.messages.Item.{Item}
use Rattle.bus_deliverylog.specs.declared.receiving.RecvTurn.{RecvTurn}
use Rattle.bus_deliverylog.specs.declared.receiving.RecvTurn.TheVariants as recv

-- a digit below 16, in lower case
abbrev pub hex_digit : ℕ → ℕ
hex_digit n = if nat_lt n 10 then 48 + n else 87 + n

-- the two digits of a byte, the higher one first
abbrev pub hex_pair : ℕ → List ℕ
hex_pair byte = hex_digit (byte / 16) ∷ hex_digit (byte % 16) ∷ []

-- two digits for each byte, and `-` for none
abbrev pub hex_text : List ℕ → List ℕ
hex_text [] = codes "-"
hex_text (b ∷ bytes) = flat_map hex_pair (b ∷ bytes)

-- sender, number and message of an item
abbrev pub item_text : Item → List ℕ
item_text i = decimal i.sender.0 ++ codes " " ++ decimal i.number ++ codes " " ++ hex_text i.message

abbrev pub recv_text : RecvTurn → List ℕ
recv_text recv.Going = codes "going"
recv_text recv.Empty = codes "empty"
recv_text (recv.Head t o) = codes "head " ++ decimal t ++ codes " " ++ decimal o.0
recv_text (recv.Item i) = codes "item " ++ item_text i
recv_text (recv.Leave s) = codes "leave " ++ decimal s.0
recv_text recv.End = codes "end"
