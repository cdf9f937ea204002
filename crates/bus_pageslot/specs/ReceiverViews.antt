-- What a receiver knows of the log, what it has read of that, and what it was answered.
use Rattle.std.specs.Prelude.{◌≡◌, ℕ, ◌+◌, ◌<◌, ◌≤◌, Bool, true, false, Option, Some, List, []}
use Rattle.std.specs.Prelude.{◌∷◌, ◌++◌, take, slice_get, if◌then◌else◌, ◌==◌}
use Rattle.bus_batch.specs.declared.messages.Piece.{Piece}
use Rattle.bus_batch.specs.Frames.{Frame, log_pieces, order_in, owners_in, is_end}
use Rattle.bus_deliverylog.specs.Orders.{IsPrefixOfOrder}
use Rattle.bus_deliverylog.specs.declared.receiving.RecvTurn.{RecvTurn}
use Rattle.bus_deliverylog.specs.declared.receiving.RecvTurn.TheVariants as turn
use Rattle.bus_tenure.specs.Core.{length_at}
use Rattle.bus_world.specs.Headline.{IsPrefix, order_given, heads}
use Rattle.bus_pageslot.specs.Notes.{Look}

-- A receiver. Where no word of the log is used again it has no passed place, and stores nothing.
pub record ReceiverView : Type 0 where
  -- the words of the log that it knows
  pub known : List ℕ
  -- how many of these it has read, and whether the end was among them
  pub place : ℕ
  pub ended : Bool
  -- What its turns that took a step have answered, the first first. Of a forked receiver this and
  -- the next two begin with what its maker showed.
  pub answers : List RecvTurn
  -- On which words of the table its steps were, the first first: loads, but for the stores in its
  -- passed place, and for its tries to fork, each on the passed place of another number. A meeting,
  -- which is three loads of the length, counts as one.
  pub loads : List ℕ
  -- what its tries to fork have found, in which words, the first first
  pub tried : List Look
  -- its number
  pub me : ℕ
  -- The place that it has stored in its passed place; 0 before the first. A forked one has what its
  -- maker had passed, which the fork has stored there.
  pub passed : ℕ
  -- it has left for good
  pub gone : Bool

-- the receiver of this number at its start
abbrev pub new_receiver_view : ℕ → ReceiverView
new_receiver_view me = record {
  known = [];
  place = 0;
  ended = false;
  answers = [];
  loads = [];
  tried = [];
  me = me;
  passed = 0;
  gone = false;
}

-- ---- one load
-- of this word, out of turn
abbrev pub receiver_view_after_load : ReceiverView → ℕ → ReceiverView
receiver_view_after_load e word = record e { loads = e.loads ++ word ∷ [] }

-- of the length, out of turn: it knows these words from then on
abbrev pub receiver_view_knowing : ReceiverView → List ℕ → ReceiverView
receiver_view_knowing e known = record e { known = known; loads = e.loads ++ length_at ∷ [] }

-- of the length, by a turn with this answer
abbrev pub heard_length : ReceiverView → List ℕ → RecvTurn → ReceiverView
heard_length e known answer = record e {
  known = known;
  answers = e.answers ++ answer ∷ [];
  loads = e.loads ++ length_at ∷ [];
}

-- of this word, which is the one at its place in the log and gave this, by a turn with this answer
abbrev pub heard_word : ReceiverView → ℕ → Option Piece → RecvTurn → ReceiverView
heard_word e word found answer = record e {
  place = e.place + 1;
  ended = is_end found;
  answers = e.answers ++ answer ∷ [];
  loads = e.loads ++ word ∷ [];
}

-- ---- one store, in this word, which is its passed place
-- of its place, by a turn
abbrev pub passed_on : ReceiverView → ℕ → ReceiverView
passed_on e word = record e {
  answers = e.answers ++ turn.Going ∷ [];
  loads = e.loads ++ word ∷ [];
  passed = e.place;
}

-- of the number past all places: it has left for good
abbrev pub left_for_good : ReceiverView → ℕ → ReceiverView
left_for_good e word = record e { loads = e.loads ++ word ∷ []; gone = true }

-- ---- one compare_exchange in this word, which is the passed place of another number
-- to fork to that number: it found this
abbrev pub receiver_tried : ReceiverView → (word found : ℕ) → ReceiverView
receiver_tried e word found = record e {
  loads = e.loads ++ word ∷ [];
  tried = e.tried ++ record { word = word; found = found } ∷ [];
}

-- ---- the same receiver with another number: what is forked off it
abbrev pub forked_as : ReceiverView → ℕ → ReceiverView
forked_as e number = record e { me = number }

-- ---- what was answered
-- what a turn answers that has found this length: Empty exactly where that is its place
abbrev pub length_turn : ℕ → ℕ → RecvTurn
length_turn place found = if found == place then turn.Empty else turn.Going

-- after the end there is the end alone
abbrev pub IsSilent : List RecvTurn → Type 0
IsSilent answers =
    (j k : ℕ) (answer : RecvTurn) → slice_get answers j ≡ Some turn.End → j < k
    → slice_get answers k ≡ Some answer → answer ≡ turn.End

-- Its turns have answered just what the first words of a log with these frames give, as many as it
-- has read.
pub record HasHeard (frames : List Frame) (e : ReceiverView) : Type 0 where
  pub given_is : order_given e.answers ≡ order_in (take e.place (log_pieces frames))
  pub heads_are : heads e.answers ≡ owners_in (take e.place (log_pieces frames))
  pub ended_is : e.ended ≡ (order_given e.answers).ended
  pub silent : IsSilent e.answers

-- what the one was answered begins what the other was answered
pub record Begins (behind ahead : ReceiverView) : Type 0 where
  pub order : IsPrefixOfOrder (order_given behind.answers) (order_given ahead.answers)
  pub owners : IsPrefix (heads behind.answers) (heads ahead.answers)

-- two receivers agree as far as both have read
pub record Agree (mine theirs : ReceiverView) : Type 0 where
  pub behind : mine.place ≤ theirs.place → Begins mine theirs
  pub ahead : theirs.place ≤ mine.place → Begins theirs mine
