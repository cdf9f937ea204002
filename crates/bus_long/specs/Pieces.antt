-- Long messages, of 0 to 880 bytes, over messages of at most 56: each is cut into pieces, and
-- whoever reads the messages of one sender in their order joins them again.
use Rattle.std.specs.Prelude.{ℕ, zero, suc, ◌-◌, ◌/◌, ◌&&◌, Bool, List, [], ◌∷◌, ◌++◌}
use Rattle.std.specs.Prelude.{length, take, drop, Option, Some, None, nat_eq, nat_lt, nat_le}
use Rattle.std.specs.Prelude.{if◌then◌else◌}
use Rattle.bus_long.specs.declared.pieces.TheConstants.{MOST_PIECES, PIECE_BYTES}

-- ---- cut
-- The pieces of bytes, of which so many follow the first. Each begins with how many follow it.
-- Behind that it has the next 55 bytes, and the last piece those that are left.
abbrev pub cut : ℕ → List ℕ → List (List ℕ)
cut zero bytes = (0 ∷ bytes) ∷ []
cut (suc follow) bytes =
    (suc follow ∷ take PIECE_BYTES bytes) ∷ cut follow (drop PIECE_BYTES bytes)

-- as few as have room for all bytes, and one where there is none
abbrev pub pieces : List ℕ → List (List ℕ)
pieces bytes = cut ((length bytes - 1) / PIECE_BYTES) bytes

-- ---- joined
-- What pieces of a sender have come to that is no whole message yet: its bytes so far, and how many
-- pieces are to come. Where none is, nothing is begun.
pub record Begun : Type 0 where
  pub left : ℕ
  pub bytes : List ℕ

abbrev pub nothing : Begun
nothing = record { left = 0; bytes = [] }

-- so many follow it, and these are its bytes: 55, and at most 55 of the last
abbrev pub is_piece : ℕ → List ℕ → Bool
is_piece follow bytes =
    nat_lt follow MOST_PIECES
    && (if nat_eq follow 0 then nat_le (length bytes) PIECE_BYTES
    else nat_eq (length bytes) PIECE_BYTES)

-- the bytes before those of a piece that so many follow: where just it is to come, those that were
-- read, and else none
abbrev pub front : Begun → ℕ → List ℕ
front b follow = if nat_eq b.left (suc follow) then b.bytes else []

-- The message that is whole with the next message of the sender, if one is: with a last piece, what
-- was begun and its bytes. One that is no piece is a message as it is.
abbrev pub whole_by : Begun → List ℕ → Option (List ℕ)
whole_by b [] = Some []
whole_by b (follow ∷ bytes) =
    if is_piece follow bytes
    then (if nat_eq follow 0 then Some (front b 0 ++ bytes) else None)
    else Some (follow ∷ bytes)

-- and what is begun then
abbrev pub begun_by : Begun → List ℕ → Begun
begun_by b [] = nothing
begun_by b (follow ∷ bytes) =
    if is_piece follow bytes && nat_lt 0 follow
    then record { left = follow; bytes = front b follow ++ bytes }
    else nothing

-- ---- of all messages of one sender, in their order
abbrev pub listed : Option (List ℕ) → List (List ℕ)
listed None = []
listed (Some bytes) = bytes ∷ []

-- what is begun behind them
abbrev pub begun : Begun → List (List ℕ) → Begun
begun b [] = b
begun b (message ∷ messages) = begun (begun_by b message) messages

-- the long messages that they come to
abbrev pub joined : Begun → List (List ℕ) → List (List ℕ)
joined b [] = []
joined b (message ∷ messages) = listed (whole_by b message) ++ joined (begun_by b message) messages
