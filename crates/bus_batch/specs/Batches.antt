-- What a sender's batch holds, and the frame that it makes.
use Rattle.std.specs.Prelude.{◌≡◌, ℕ, zero, suc, ◌+◌, ◌-◌, ◌/◌, ◌<◌, ◌≤◌, ◌^◌, ◌⊎◌, List, []}
use Rattle.std.specs.Prelude.{◌∷◌, length, take, drop, flat_map, All, Bool, true, false}
use Rattle.std.specs.Int.{w64, to_be_bytes}
use Rattle.bus_register.specs.declared.limits.TheConstants.{MOST_BYTES, MOST_MESSAGES, NUMBERS}
use Rattle.bus_register.specs.declared.registers.SenderNo.{SenderNo}
use Rattle.bus_batch.specs.declared.batches.Phase.{Phase}
use Rattle.bus_batch.specs.declared.batches.Phase.TheVariants.{Open, Marking, Closed}
use Rattle.bus_batch.specs.declared.messages.Mark.{Mark}
use Rattle.bus_batch.specs.declared.batches.PutFault.{PutFault}
use Rattle.bus_batch.specs.declared.batches.PutFault.TheVariants as put
use Rattle.bus_batch.specs.declared.batches.CloseFault.{CloseFault}
use Rattle.bus_batch.specs.declared.batches.CloseFault.TheVariants as close
use Rattle.bus_batch.specs.Messages.{IsMessage, numbered_messages}
use Rattle.bus_batch.specs.Frames.{Frame, Body, Messages, Marked, data_len}

-- a sender's batch: how many messages it may have, these, numbered from first on, whether it
-- accepts more, and whether they are on their way
pub record Pending : Type 0 where
  pub sender : SenderNo
  pub limit : ℕ
  pub first : ℕ
  pub messages : List (List ℕ)
  pub phase : Phase
  pub busy : Bool

-- the length that a message word tells
abbrev pub len_told : ℕ → ℕ
len_told word = (word - 2 ^ 63) / 2 ^ 54

-- the first so many messages that words spell, each by a message word and its bytes behind it
abbrev pub spelled : ℕ → List ℕ → List (List ℕ)
spelled zero words = []
spelled (suc n) [] = []
spelled (suc n) (word ∷ words) =
    take (len_told word) (flat_map (to_be_bytes w64) words)
    ∷ spelled n (drop (data_len (len_told word)) words)

-- the number that the next message gets
abbrev pub next_of : Pending → ℕ
next_of b = b.first + length b.messages

-- a close or a leave was accepted, or the order is known to have ended
abbrev pub IsShut : Pending → Type 0
IsShut b = ((mark : Mark) × (b.phase ≡ Marking mark)) ⊎ (b.phase ≡ Closed)

-- messages wait, or a mark
abbrev pub HasSomething : Pending → Type 0
HasSomething b = (0 < length b.messages) ⊎ ((mark : Mark) × (b.phase ≡ Marking mark))

-- what its frame carries: the mark that waits, else its messages
abbrev pub body_of : Phase → ℕ → List (List ℕ) → Body
body_of Open first messages = Messages (numbered_messages first messages)
body_of (Marking mark) first messages = Marked mark
body_of Closed first messages = Messages (numbered_messages first messages)

-- its frame in a tenure
abbrev pub frame_of : Pending → ℕ → Frame
frame_of b tenure = record {
  tenure = tenure;
  owner = b.sender;
  body = body_of b.phase b.first b.messages;
}

-- a message of so many bytes is taken
pub record CanPut (b : Pending) (len : ℕ) : Type 0 where
  pub is_open : b.phase ≡ Open
  pub idle : b.busy ≡ false
  pub short : len ≤ MOST_BYTES
  pub room : length b.messages < b.limit

-- why a message of so many bytes is refused: each fault where its cause holds and no earlier one
abbrev pub IsPutFault : Pending → ℕ → PutFault → Type 0
IsPutFault b len put.Closed = IsShut b
IsPutFault b len put.Busy = (b.phase ≡ Open) × (b.busy ≡ true)
IsPutFault b len put.TooLong = (b.phase ≡ Open) × (b.busy ≡ false) × (MOST_BYTES < len)
IsPutFault b len put.BatchFull =
    (b.phase ≡ Open) × (b.busy ≡ false) × (len ≤ MOST_BYTES) × (length b.messages ≡ b.limit)

-- a close or a leave is taken
pub record CanClose (b : Pending) : Type 0 where
  pub is_open : b.phase ≡ Open
  pub idle : b.busy ≡ false
  pub none : b.messages ≡ []

-- why a close or a leave is refused, likewise
abbrev pub IsCloseFault : Pending → CloseFault → Type 0
IsCloseFault b close.Closed = IsShut b
IsCloseFault b close.Busy = (b.phase ≡ Open) × (b.busy ≡ true)
IsCloseFault b close.Pending = (b.phase ≡ Open) × (b.busy ≡ false) × (0 < length b.messages)

-- the phase once the contents are sent
abbrev pub phase_sent : Phase → Phase
phase_sent Open = Open
phase_sent (Marking mark) = Closed
phase_sent Closed = Closed

-- what a batch always keeps
pub record IsKept (b : Pending) : Type 0 where
  pub limit_some : 1 ≤ b.limit
  pub limit_few : b.limit ≤ MOST_MESSAGES
  pub few : length b.messages ≤ b.limit
  pub each : All IsMessage b.messages
  pub numbers : next_of b ≤ NUMBERS
  pub alone : (mark : Mark) → b.phase ≡ Marking mark → b.messages ≡ []
  pub owner_bits : b.sender.0 < 2 ^ 8
