-- Turns of a receiver, one after another.
use Rattle.std.proofs.Common.{◌≡◌, ℕ, ◌⊎◌, inl, inr, Bool, true, false, refl, sym, ◌∙◌, ap, subst}
use Rattle.std.proofs.Common.{arith}
use Rattle.std.proofs.lemmas.Grind.{common_steps}
use Rattle.bus_register.specs.declared.registers.SenderNo.{SenderNo}
use Rattle.bus_deliverylog.specs.declared.receiving.RecvTurn.{RecvTurn}
use Rattle.bus_deliverylog.specs.declared.receiving.RecvTurn.TheVariants as turn
use Rattle.bus_pageslot.specs.Listening.{GoesOnTo, At, Onward}
use Rattle.bus_pageslot.specs.Rule.{Sat}
use Rattle.bus_replica.specs.Causes.{HearsEnd}
use Rattle.bus_replica.specs.Replicas.{Operations, Hearing, GoesOn, Here, On, HearsMore, Nothing}
use Rattle.bus_replica.specs.Replicas.{Something, HearsOut, is_out, last_heard}
use Rattle.bus_replica.specs.Turns.{Makes, TakesIn}
use Rattle.bus_replica.specs.declared.hearers.Applied.{Applied}
use Rattle.bus_replica.specs.declared.hearers.Applied.TheVariants as applied

pub goes_trans : {C : Type 0} (a b c : Sat C) → GoesOn a b → GoesOn b c → GoesOn a c
goes_trans a b _ before Here = before
goes_trans a b _ before (On old answer new later hears) =
    On old answer new (goes_trans a b old before later) hears

-- by turns that took words which say nothing by themselves
pub goes_along : {C : Type 0} (a b c : Sat C) → GoesOn a b → GoesOnTo b c → GoesOn a c
goes_along a b _ before At = before
goes_along a b _ before (Onward old new later undue below hears) =
    On old turn.Going new (goes_along a b old before later) hears

more_along : {C : Type 0} (a b c : Sat C) → HearsMore a b → GoesOnTo b c → HearsMore a c
more_along a b _ before At = before
more_along a b _ before (Onward old new later undue below hears) =
    Something old turn.Going new (more_along a b old before later) hears refl

-- what has changed nothing
pub goes_same : {C : Type 0} (a b c : Sat C) → GoesOn a b → c ≡ b → GoesOn a c
goes_same a b c on same = subst (λ z. GoesOn a z) (sym same) on

-- ---- up to where nothing more is there
pub more_goes : {C : Type 0} (a b : Sat C) → HearsMore a b → GoesOn a b
more_goes a _ Nothing = Here
more_goes a _ (Something old answer new before hears more) =
    On old answer new (more_goes a old before) hears

pub out_goes : {C : Type 0} (a : Sat C) (ended : Bool) (b : Sat C) → HearsOut a ended b → GoesOn a b
out_goes a ended b h = On h.before (last_heard ended) b (more_goes a h.before h.goes_on) h.last

-- behind turns, or where nothing was heard before
pub out_ends : {C : Type 0} (a b c : Sat C) → GoesOn a b → HearsOut b true c → HearsEnd a c
out_ends a b c before h = grind (arith, common_steps, goes_trans, more_goes)

pub ends_behind : {C : Type 0} (a b c : Sat C) → GoesOn a b → HearsEnd b c → HearsEnd a c
ends_behind a b c before h = grind (arith, common_steps, goes_trans)

pub ends_same : {C : Type 0} (a b c : Sat C) → HearsEnd a b → c ≡ b → HearsEnd a c
ends_same a b c h same = subst (λ z. HearsEnd a z) (sym same) h

-- ---- by what a turn told
abbrev pub is_done : {A : Type 0} → Applied A → Bool
is_done applied.Going = false
is_done applied.Empty = true
is_done (applied.Op sender number answer) = false
is_done applied.End = true

done_out : {S A : Type 0} (Applies : Operations S A) (old new : S) (answer : RecvTurn)
    (told : Applied A) → Makes Applies old answer told new → is_done told ≡ is_out answer
done_out Applies old new turn.Going told m = ap is_done m.0
done_out Applies old new turn.Empty told m = ap is_done m.0
done_out Applies old new (turn.Head tenure owner) told m = ap is_done m.0
done_out Applies old new (turn.Item item) told m = ap is_done m.1
done_out Applies old new (turn.Leave sender) told m = ap is_done m.0
done_out Applies old new turn.End told m = ap is_done m.0

pub goes_told : {A : Type 0} (told : Applied A)
    → ((s : SenderNo) × (n : ℕ) × (a : A) × (told ≡ applied.Op s n a)) ⊎ (told ≡ applied.Going)
    → is_done told ≡ false
goes_told told (inl i) = ap is_done i.3
goes_told told (inr e) = ap is_done e

abbrev is_end : {A : Type 0} → Applied A → Bool
is_end applied.Going = false
is_end applied.Empty = false
is_end (applied.Op sender number answer) = false
is_end applied.End = true

end_is : {S A : Type 0} (Applies : Operations S A) (old new : S) (answer : RecvTurn)
    → Makes Applies old answer applied.End new → answer ≡ turn.End
end_is {A = A} Applies old new turn.Going m =
    absurd (let no : true ≡ false = ap (is_end {A = A}) m.0 in cc)
end_is {A = A} Applies old new turn.Empty m =
    absurd (let no : true ≡ false = ap (is_end {A = A}) m.0 in cc)
end_is {A = A} Applies old new (turn.Head tenure owner) m =
    absurd (let no : true ≡ false = ap (is_end {A = A}) m.0 in cc)
end_is {A = A} Applies old new (turn.Item item) m =
    absurd (let no : true ≡ false = ap (is_end {A = A}) m.1 in cc)
end_is {A = A} Applies old new (turn.Leave sender) m =
    absurd (let no : true ≡ false = ap (is_end {A = A}) m.0 in cc)
end_is Applies old new turn.End m = refl

abbrev is_empty : {A : Type 0} → Applied A → Bool
is_empty applied.Going = false
is_empty applied.Empty = true
is_empty (applied.Op sender number answer) = false
is_empty applied.End = false

empty_is : {S A : Type 0} (Applies : Operations S A) (old new : S) (answer : RecvTurn)
    → Makes Applies old answer applied.Empty new → answer ≡ turn.Empty
empty_is {A = A} Applies old new turn.Going m =
    absurd (let no : true ≡ false = ap (is_empty {A = A}) m.0 in cc)
empty_is Applies old new turn.Empty m = refl
empty_is {A = A} Applies old new (turn.Head tenure owner) m =
    absurd (let no : true ≡ false = ap (is_empty {A = A}) m.0 in cc)
empty_is {A = A} Applies old new (turn.Item item) m =
    absurd (let no : true ≡ false = ap (is_empty {A = A}) m.1 in cc)
empty_is {A = A} Applies old new (turn.Leave sender) m =
    absurd (let no : true ≡ false = ap (is_empty {A = A}) m.0 in cc)
empty_is {A = A} Applies old new turn.End m =
    absurd (let no : true ≡ false = ap (is_empty {A = A}) m.0 in cc)

module _ {C S A : Type 0} (Applies : Operations S A) (first : Sat C) (old new : Hearing C S) where
  -- what a hearer takes in is by turns of its receiver
  pub goes_by : (told : Applied A) → GoesOn first old.me → TakesIn Applies old told new
      → GoesOn first new.me
  goes_by told before takes =
      On takes.before takes.answer new.me
      (goes_along first old.me takes.before before takes.going) takes.hears

  -- after which nothing more is known yet
  pub more_turn : (told : Applied A) → HearsMore first old.me → TakesIn Applies old told new
      → is_done told ≡ false → HearsMore first new.me
  more_turn told before takes goes =
      Something takes.before takes.answer new.me
      (more_along first old.me takes.before before takes.going) takes.hears
      (sym (done_out Applies old.state new.state takes.answer told takes.makes) ∙ goes)

  pub end_turn : HearsMore first old.me → TakesIn Applies old applied.End new
      → HearsOut first true new.me
  end_turn before takes = grind (arith, common_steps, more_along, end_is)

  pub empty_turn : HearsMore first old.me → TakesIn Applies old applied.Empty new
      → HearsOut first false new.me
  empty_turn before takes = grind (arith, common_steps, more_along, empty_is)

  -- the end, wherever it comes
  pub turn_ends : GoesOn first old.me → TakesIn Applies old applied.End new
      → HearsEnd first new.me
  turn_ends before takes = grind (arith, common_steps, goes_along, end_is)
