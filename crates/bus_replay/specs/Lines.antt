-- What the lines of a script of `replay` say.
use Rattle.std.specs.Prelude.{ℕ, ◌+◌, ◌-◌, ◌*◌, ◌^◌, Bool, ◌&&◌, List, [], ◌∷◌, length}
use Rattle.std.specs.Prelude.{Option, Some, None, codes, nat_lt, nat_le, if◌then◌else◌}
use Rattle.std.specs.Prelude.{option_and_then}
use Rattle.std.specs.Option.{option_map}
use Rattle.std.specs.Str.{bytes_eq}
use Rattle.bus_register.specs.declared.limits.TheConstants.{LOG_MESSAGES}
use Rattle.bus_batch.specs.declared.messages.Mark.TheVariants as mark
use Rattle.bus_world.specs.World.{Event, Put, Ask, Turn, Recv, Stop, Gone}
use Rattle.bus_world.specs.declared.shapes.Shape.{Shape}
use Rattle.bus_replay.specs.declared.lines.TheConstants.{MOST_TURNS_A_LINE}
use Rattle.bus_replay.specs.declared.lines.FirstLine.{FirstLine}
use Rattle.bus_replay.specs.declared.lines.FirstLine.TheVariants.{Shape as Shaped, Cycle as Cycled}
use Rattle.bus_replay.specs.declared.lines.FirstLine.TheVariants.{Ring as Ringed}
use Rattle.bus_script.specs.Grammar.{number_of, and_before, each_of, arguments_of}

-- what a line asks for: an event, at most so many times; or that a receiver forks to a number
pub data Command : Type 0 where
  Plays : (event : Event) (times : ℕ) → Command
  ForksTo : (maker number : ℕ) → Command

-- ---- bytes in hexadecimal digits, lower case, and `-` for none

-- the value of a digit
abbrev pub digit_of : ℕ → Option ℕ
digit_of b =
    if nat_le 48 b && nat_le b 57 then Some (b - 48)
    else (if nat_le 97 b && nat_le b 102 then Some (b - 87) else None)

abbrev pub byte_from : Option ℕ → Option ℕ → Option ℕ
byte_from None low = None
byte_from (Some high) None = None
byte_from (Some high) (Some low) = Some (16 * high + low)

-- the bytes of pairs of digits
abbrev pub pairs_of : List ℕ → Option (List ℕ)
pairs_of [] = Some []
pairs_of (high ∷ []) = None
pairs_of (high ∷ low ∷ digits) =
    and_before (byte_from (digit_of high) (digit_of low)) (pairs_of digits)

abbrev pub hex_of : List ℕ → Option (List ℕ)
hex_of word =
    if bytes_eq word (codes "-") then Some []
    else (if nat_lt 0 (length word) then pairs_of word else None)

-- ---- lines

abbrev pub or_else : {A : Type 0} → Option A → Option A → Option A
or_else (Some x) y = Some x
or_else None y = y

abbrev pub numbers_behind : List ℕ → List ℕ → Option (List ℕ)
numbers_behind keyword line = option_and_then (each_of number_of) (arguments_of keyword line)

-- these sizes, with so many messages in a batch
abbrev pub shape_with : (senders receivers rounds rows log_words batch : ℕ) → Shape
shape_with n m r t l b = record {
  senders = n;
  receivers = m;
  rounds = r;
  rows = t;
  log_words = l;
  batch = b;
}

-- five numbers: senders, receivers, rounds, rows, log words
abbrev pub shape_from : List ℕ → Option Shape
shape_from [] = None
shape_from (n ∷ []) = None
shape_from (n ∷ m ∷ []) = None
shape_from (n ∷ m ∷ r ∷ []) = None
shape_from (n ∷ m ∷ r ∷ t ∷ []) = None
shape_from (n ∷ m ∷ r ∷ t ∷ l ∷ []) = Some (shape_with n m r t l LOG_MESSAGES)
shape_from (n ∷ m ∷ r ∷ t ∷ l ∷ x ∷ more) = None

-- what a line `shape N M R T L` says
abbrev pub shape_of : List ℕ → Option Shape
shape_of line = option_and_then shape_from (numbers_behind (codes "shape") line)

-- what a line `cycle N M R T L` says
abbrev pub cycle_of : List ℕ → Option Shape
cycle_of line = option_and_then shape_from (numbers_behind (codes "cycle") line)

-- five numbers, and as many seats as receivers; or a sixth, which is how many seats there are; or a
-- seventh, which is how many messages a batch may have
abbrev pub ring_from : List ℕ → Option FirstLine
ring_from [] = None
ring_from (n ∷ []) = None
ring_from (n ∷ m ∷ []) = None
ring_from (n ∷ m ∷ r ∷ []) = None
ring_from (n ∷ m ∷ r ∷ t ∷ []) = None
ring_from (n ∷ m ∷ r ∷ t ∷ l ∷ []) = Some (Ringed (shape_with n m r t l LOG_MESSAGES) m)
ring_from (n ∷ m ∷ r ∷ t ∷ l ∷ s ∷ []) = Some (Ringed (shape_with n m r t l LOG_MESSAGES) s)
ring_from (n ∷ m ∷ r ∷ t ∷ l ∷ s ∷ b ∷ []) = Some (Ringed (shape_with n m r t l b) s)
ring_from (n ∷ m ∷ r ∷ t ∷ l ∷ s ∷ b ∷ x ∷ more) = None

-- what a line `ring N M R T L`, `ring N M R T L S` or `ring N M R T L S B` says
abbrev pub ring_of : List ℕ → Option FirstLine
ring_of line = option_and_then ring_from (numbers_behind (codes "ring") line)

-- The shape that the first line says, with as many receivers as there are at first; how many seats
-- there are; how many rows are used again, none where each tenure has one; and how many passed
-- places there are, none where no log word is used again.
abbrev pub shape_in : FirstLine → Shape
shape_in (Shaped shape) = shape
shape_in (Cycled shape) = shape
shape_in (Ringed shape seats) = shape

abbrev pub seats_in : FirstLine → ℕ
seats_in (Shaped shape) = shape.receivers
seats_in (Cycled shape) = shape.receivers
seats_in (Ringed shape seats) = seats

abbrev pub reuse_in : FirstLine → Option ℕ
reuse_in (Shaped shape) = None
reuse_in (Cycled shape) = Some shape.rows
reuse_in (Ringed shape seats) = Some shape.rows

abbrev pub passers_in : FirstLine → ℕ
passers_in (Shaped shape) = 0
passers_in (Cycled shape) = 0
passers_in (Ringed shape seats) = seats

-- the shape of the bus that is made: each seat has a receiver
abbrev pub made_in : FirstLine → Shape
made_in first = record (shape_in first) { receivers = seats_in first }

-- what the first line asks for
abbrev pub first_of : List ℕ → Option FirstLine
first_of line =
    or_else (option_map Shaped (shape_of line))
    (or_else (option_map Cycled (cycle_of line)) (ring_of line))

abbrev pub put_of : Option ℕ → Option (List ℕ) → Option Command
put_of None bytes = None
put_of (Some s) None = None
put_of (Some s) (Some bytes) = Some (Plays (Put s bytes) 1)

-- `put S HEX`
abbrev pub put_from : List (List ℕ) → Option Command
put_from [] = None
put_from (s ∷ []) = None
put_from (s ∷ bytes ∷ []) = put_of (number_of s) (hex_of bytes)
put_from (s ∷ bytes ∷ x ∷ more) = None

-- `close S`
abbrev pub close_from : List ℕ → Option Command
close_from [] = None
close_from (s ∷ []) = Some (Plays (Ask s mark.End) 1)
close_from (s ∷ x ∷ more) = None

-- so many turns can one line ask for
abbrev pub are_times : ℕ → Bool
are_times k = nat_le 1 k && nat_le k MOST_TURNS_A_LINE

-- `turn S W K`: at most K turns of sender S with the random word W
abbrev pub turn_from : List ℕ → Option Command
turn_from [] = None
turn_from (s ∷ []) = None
turn_from (s ∷ w ∷ []) = None
turn_from (s ∷ w ∷ k ∷ []) =
    if nat_lt w (2 ^ 32) && are_times k then Some (Plays (Turn s w) k) else None
turn_from (s ∷ w ∷ k ∷ x ∷ more) = None

-- `recv M K`: at most K turns of receiver M
abbrev pub recv_from : List ℕ → Option Command
recv_from [] = None
recv_from (m ∷ []) = None
recv_from (m ∷ k ∷ []) = if are_times k then Some (Plays (Recv m) k) else None
recv_from (m ∷ k ∷ x ∷ more) = None

-- `stop S`
abbrev pub stop_from : List ℕ → Option Command
stop_from [] = None
stop_from (s ∷ []) = Some (Plays (Stop s) 1)
stop_from (s ∷ x ∷ more) = None

-- `leave S`
abbrev pub leave_from : List ℕ → Option Command
leave_from [] = None
leave_from (s ∷ []) = Some (Plays (Ask s mark.Leave) 1)
leave_from (s ∷ x ∷ more) = None

-- `gone M`
abbrev pub gone_from : List ℕ → Option Command
gone_from [] = None
gone_from (m ∷ []) = Some (Plays (Gone m) 1)
gone_from (m ∷ x ∷ more) = None

-- `fork I J`
abbrev pub fork_from : List ℕ → Option Command
fork_from [] = None
fork_from (i ∷ []) = None
fork_from (i ∷ j ∷ []) = Some (ForksTo i j)
fork_from (i ∷ j ∷ x ∷ more) = None

-- what a line behind the first one says
abbrev pub command_of : List ℕ → Option Command
command_of line =
    or_else (option_and_then put_from (arguments_of (codes "put") line))
    (or_else (option_and_then close_from (numbers_behind (codes "close") line))
    (or_else (option_and_then turn_from (numbers_behind (codes "turn") line))
    (or_else (option_and_then recv_from (numbers_behind (codes "recv") line))
    (or_else (option_and_then stop_from (numbers_behind (codes "stop") line))
    (or_else (option_and_then leave_from (numbers_behind (codes "leave") line))
    (or_else (option_and_then gone_from (numbers_behind (codes "gone") line))
    (option_and_then fork_from (numbers_behind (codes "fork") line))))))))
