-- What a listener has counted of the answers that a receiver gave.
use Rattle.std.specs.Prelude.{ℕ, ◌+◌, ◌^◌, Bool, true, false, List, replicate, nat_lt, ◌==◌, ◌&&◌}
use Rattle.std.specs.Prelude.{if◌then◌else◌, slice_index, slice_index_or, slice_set}
use Rattle.bus_register.specs.declared.limits.TheConstants.{MOST_SENDERS}
use Rattle.bus_deliverylog.specs.declared.receiving.RecvTurn.{RecvTurn}
use Rattle.bus_deliverylog.specs.declared.receiving.RecvTurn.TheVariants as turn

-- the number that each sender's first item is to have, how many items of each, how many in all,
-- which senders have left, and whether the end was among the answers
pub record Hearing : Type 0 where
  pub bases : List ℕ
  pub counts : List ℕ
  pub items : ℕ
  pub left : List Bool
  pub ended : Bool

-- before any answer, where the first items are to have these numbers
abbrev pub nothing_after : List ℕ → Hearing
nothing_after bases = record {
  bases = bases;
  counts = replicate MOST_SENDERS 0;
  items = 0;
  left = replicate MOST_SENDERS false;
  ended = false;
}

-- of a first sitting, which begins with 0
abbrev pub nothing : Hearing
nothing = nothing_after (replicate MOST_SENDERS 0)

-- the number that the next item of a sender is to have
abbrev pub expected : Hearing → ℕ → ℕ
expected h sender = slice_index h.bases sender + slice_index h.counts sender

abbrev pub goes_on : Hearing → Bool
goes_on h = if h.ended then false else true

-- one item more can be counted
abbrev pub has_room : Hearing → Bool
has_room h = nat_lt (h.items + 1) (2 ^ 64)

-- a sender below `MOST_SENDERS` that has not left
abbrev pub is_there : Hearing → ℕ → Bool
is_there h sender =
    nat_lt sender MOST_SENDERS && (if slice_index_or h.left sender false then false else true)

-- The answer is taken: after the end only the end, of a sender that has left neither an item nor a
-- second leave mark, and an item where it is the next of its sender and can be counted.
abbrev pub takes : Hearing → RecvTurn → Bool
takes h turn.Going = goes_on h
takes h turn.Empty = goes_on h
takes h (turn.Head tenure owner) = goes_on h
takes h (turn.Item item) =
    goes_on h && has_room h
    && (is_there h item.sender.0 && (item.number == expected h item.sender.0))
takes h (turn.Leave sender) = goes_on h && is_there h sender.0
takes h turn.End = true

-- what is counted with an answer that is taken
abbrev pub hearing_after : Hearing → RecvTurn → Hearing
hearing_after h turn.Going = h
hearing_after h turn.Empty = h
hearing_after h (turn.Head tenure owner) = h
hearing_after h (turn.Item item) = record h {
  counts = slice_set h.counts item.sender.0 (slice_index h.counts item.sender.0 + 1);
  items = h.items + 1;
}
hearing_after h (turn.Leave sender) = record h { left = slice_set h.left sender.0 true }
hearing_after h turn.End = record h { ended = true }
