-- What a turn of a replica does.
use Rattle.std.specs.Prelude.{◌≡◌, ℕ, ◌<◌, Bool, false, List, length, slice_index_or}
use Rattle.bus_deliverylog.specs.declared.receiving.RecvTurn.{RecvTurn}
use Rattle.bus_deliverylog.specs.declared.receiving.RecvTurn.TheVariants as turn
use Rattle.bus_pageslot.specs.Listening.{Hears, GoesOnTo}
use Rattle.bus_pageslot.specs.Rule.{Sat}
use Rattle.bus_pageslot.specs.declared.rule.View.{View}
use Rattle.bus_replica.specs.Replicas.{Operations, Hearing, IsFold, StandsLast, has_heard_leave}
use Rattle.bus_replica.specs.declared.hearers.Applied.{Applied}
use Rattle.bus_replica.specs.declared.hearers.TheConstants.{NUMBERS}
use Rattle.bus_replica.specs.declared.hearers.Applied.TheVariants as applied

-- what it makes of an answer of its receiver, and what it tells
abbrev pub Makes : {S A : Type 0} → Operations S A → S → RecvTurn → Applied A → S → Type 0
Makes Applies old turn.Going told new = (told ≡ applied.Going) × (new ≡ old)
Makes Applies old turn.Empty told new = (told ≡ applied.Empty) × (new ≡ old)
Makes Applies old (turn.Head tenure owner) told new = (told ≡ applied.Going) × (new ≡ old)
Makes {S} {A} Applies old (turn.Item item) told new =
    (answer : A) × (told ≡ applied.Op item.sender item.number answer)
    × Applies old item.sender.0 item.message answer new
Makes Applies old (turn.Leave sender) told new = (told ≡ applied.Going) × (new ≡ old)
Makes Applies old turn.End told new = (told ≡ applied.End) × (new ≡ old)

-- its state is the fold of what its receiver was given; and of each number it is noted whether it
-- was answered that the worker of that number has left
pub record IsHearing {C S A : Type 0} (IsFirst : S → Type 0) (Applies : Operations S A)
    (v : View C) (state : S) (left : List Bool) : Type 0 where
  pub fold : IsFold IsFirst Applies v state
  pub long : length left ≡ NUMBERS
  pub gone : (worker : ℕ) → worker < length left
      → slice_index_or left worker false ≡ has_heard_leave v worker

-- turns of its receiver that took words which say nothing by themselves, and one more; and the
-- operation that this heard, if it heard one, applied
pub record TakesIn {C S A : Type 0} (Applies : Operations S A) (old : Hearing C S)
    (told : Applied A) (new : Hearing C S) : Type 0 where
  pub before : Sat C
  pub going : GoesOnTo old.me before
  pub answer : RecvTurn
  pub hears : Hears before answer new.me
  pub makes : Makes Applies old.state answer told new.state

-- where it told of an operation, that stands last
abbrev pub StandsIfTold : {C S A : Type 0} → (S → Type 0) → Operations S A → Hearing C S
    → Applied A → Type 0
StandsIfTold IsFirst Applies new applied.Going = Unit {0}
StandsIfTold IsFirst Applies new applied.Empty = Unit {0}
StandsIfTold IsFirst Applies new (applied.Op sender number answer) =
    StandsLast IsFirst Applies new.me.0 new.state sender.0 number answer
StandsIfTold IsFirst Applies new applied.End = Unit {0}
