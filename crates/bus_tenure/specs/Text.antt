-- How the answer to a turn is written. Tenures, senders and numbers of messages are decimal.
use Rattle.std.specs.Prelude.{ℕ, List, ◌++◌, codes, decimal}
use Rattle.bus_tenure.specs.declared.turns.Turn.{Turn}
use Rattle.bus_tenure.specs.declared.turns.Turn.TheVariants as turn

abbrev pub turn_text : Turn → List ℕ
turn_text turn.Idle = codes "idle"
turn_text turn.Waiting = codes "waiting"
turn_text turn.Going = codes "going"
turn_text (turn.Lost t o) = codes "lost " ++ decimal t ++ codes " " ++ decimal o.0
turn_text (turn.Own t) = codes "own " ++ decimal t
turn_text (turn.Delivered t first last) =
    codes "delivered " ++ decimal t ++ codes " " ++ decimal first ++ codes " " ++ decimal last
turn_text (turn.Left t) = codes "left " ++ decimal t
turn_text turn.Full = codes "full"
turn_text turn.Closed = codes "closed"
turn_text turn.Spent = codes "spent"
turn_text (turn.Behind t s) = codes "behind " ++ decimal t ++ codes " " ++ decimal s.0
