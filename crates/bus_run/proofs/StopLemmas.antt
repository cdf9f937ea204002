-- Workers of senders in order, and what the fault of workers that have ended tells of the run.
use Rattle.std.proofs.Common.{◌≡◌, ℕ, zero, suc, ◌+◌, ◌<◌, ◌⊎◌, inl, inr, true, false, None}
use Rattle.std.proofs.Common.{is_some, refl, List, [], ◌∷◌, length, take, Option, Some}
use Rattle.std.proofs.Common.{slice_index_or, sym, ap, subst, ◌∙◌, arith}
use Rattle.std.specs.Prelude.{slice_get, All}
use Rattle.std.proofs.lemmas.List.{take_more, length-take}
use Rattle.std.proofs.lemmas.Bool.{true≢false, or_parts}
use Rattle.std.proofs.lemmas.Option.{slice_get_within, same_Some, get_or_from_slice_get}
use Rattle.bus_batch.specs.Frames.{Order}
use Rattle.bus_pageslot.specs.Outcomes.{Outcome}
use Rattle.bus_pageslot.specs.Seats.{SenderSeat}
use Rattle.bus_receiver.specs.Hearing.{Hearing}
use Rattle.bus_world.specs.declared.shapes.Shape.{Shape}
use Rattle.bus_world.proofs.PlayingLaws.{one_there}
pub use Rattle.bus_world.proofs.PlayingLaws.{passed_up}
use Rattle.bus_run.specs.Audit.{IsSpelled, IsFirstFault}
use Rattle.bus_automaton.specs.ThreeWordBuses.{Held}
use Rattle.bus_run.specs.Left.{Shown}
use Rattle.bus_run.specs.Stops.{AreInOrder, IsWhole, is_gate, has_gate, AreUnstopped, IsFirstStop}
use Rattle.bus_run.specs.Stops.{IsLate, IsTextFault, IsNamed, IsStop}
use Rattle.bus_run.specs.declared.audits.AuditFault.{AuditFault}
use Rattle.bus_run.specs.declared.audits.AuditFault.TheVariants.{Count, NotEnded, Left}
use Rattle.bus_run.specs.declared.faults.RunFault.{RunFault}
use Rattle.bus_run.specs.declared.faults.RunFault.TheVariants as run
use Rattle.bus_run.specs.declared.faults.SenderFault.{SenderFault}
use Rattle.bus_run.specs.declared.faults.SenderFault.TheVariants.{Gate, Stopped}
use Rattle.bus_run.proofs.ToldLemmas.{at_last}

-- one more worker that stands at its place
pub one_more_in_order : {D : Type 0} (number : D → ℕ) (xs : List D) (i : ℕ) (x : D) → i < length xs
    → x ≡ slice_index_or xs i x → AreInOrder number (take i xs) → number x ≡ i
    → AreInOrder number (take (i + 1) xs)
one_more_in_order number xs i x within is before here k d at =
    let so_far : length (take i xs) ≡ i = omega (arith, length-take i xs) in
    elim (at_last (take i xs) (slice_index_or xs i x) k d
    (subst (λ z. slice_get z k ≡ Some d) (take_more xs i x within) at)) [
      | inl l ↦ before k d l
      | inr r ↦ ap number (r.1 ∙ sym is) ∙ here ∙ sym (r.0 ∙ so_far)
    ]

-- ---- what a sender's worker noted
no_gate : {D : Type 0} (noted : D → Option SenderFault) (xs : List D) (i : ℕ) (x : D)
    → has_gate noted xs ≡ false → slice_get xs i ≡ Some x → is_gate (noted x) ≡ false
no_gate noted [] i x none at = absurd (let no = at in cc)
no_gate noted (y ∷ ys) zero x none at =
    ap (λ z. is_gate (noted z)) (sym (same_Some y x at))
    ∙ (or_parts (is_gate (noted y)) (has_gate noted ys) none).0
no_gate noted (y ∷ ys) (suc i) x none at =
    no_gate noted ys i x (or_parts (is_gate (noted y)) (has_gate noted ys) none).1 at

is_stop : (o : Option SenderFault) → is_gate o ≡ false → is_some o ≡ true → o ≡ Some Stopped
is_stop None e some = absurd (true≢false (sym some))
is_stop (Some Gate) e some = absurd (true≢false e)
is_stop (Some Stopped) e some = refl

-- a worker that noted something noted a stop, where none noted a gate
pub stopped_at : {D : Type 0} (noted : D → Option SenderFault) (xs : List D) (i : ℕ) (x : D)
    → has_gate noted xs ≡ false → slice_get xs i ≡ Some x → is_some (noted x) ≡ true
    → noted x ≡ Some Stopped
stopped_at noted xs i x none at some = is_stop (noted x) (no_gate noted xs i x none at) some

-- ---- who is named
-- a receiver among those that noted, and a sender of a bus
pub named : (order : Order) (heards : List Hearing) (why : AuditFault)
    → IsFirstFault order heards why → IsNamed (length heards) why
named order heards (Count r s) h = (slice_get_within heards r h.1 h.2, h.3)
named order heards (NotEnded r) h = slice_get_within heards r h.1 h.2
named order heards (Left s) h = h.1

module _ {D E : Type 0} (number : D → ℕ) (noted : D → Option SenderFault)
    (sender : D → SenderSeat Held) (shape : Shape) (messages room : ℕ) (send_workers : List D)
    (receive_workers : List E) (seats : List Shown) (heards : List Hearing) where
  -- the fault of the workers
  abbrev pub WorkersFault : RunFault → Type 0
  WorkersFault fault =
      ((fault ≡ run.Spawn) × (IsWhole number shape send_workers receive_workers → ⊥))
      ⊎ (IsWhole number shape send_workers receive_workers × IsFirstStop noted send_workers fault)
      ⊎ (IsWhole number shape send_workers receive_workers × AreUnstopped noted send_workers
      × IsLate sender shape messages room send_workers seats heards fault)

  pub workers_stop : (fault : RunFault) → length heards ≡ length receive_workers
      → WorkersFault fault → IsStop shape.senders shape.receivers fault
  workers_stop run.NoMemory many h = tt
  workers_stop run.Spawn many h = tt
  workers_stop run.Gate many h = tt
  workers_stop (run.Stopped s) many (inl h) = absurd (let no = h.0 in cc)
  workers_stop (run.Stopped s) many (inr (inl h)) =
      subst (λ n. s < n) h.0.all_send (slice_get_within send_workers s h.1.2 h.1.3)
  workers_stop (run.Stopped s) many (inr (inr h)) = h.2.0
  workers_stop (run.Audit why) many (inl h) = absurd (let no = h.0 in cc)
  workers_stop (run.Audit why) many (inr (inl h)) = absurd h.1
  workers_stop (run.Audit why) many (inr (inr h)) =
      let left = h.2.1 in
      let order = left.spelled.0 in
      subst (λ n. IsNamed n why) (many ∙ h.0.all_hear)
      (named order heards why (left.holds order left.spelled.1 left.spelled.2).2)
  workers_stop run.Read many (inl h) = absurd (let no = h.0 in cc)
  workers_stop run.Read many (inr (inl h)) = h.1
  workers_stop run.Read many (inr (inr h)) = h.2
  workers_stop run.Write many (inl h) = absurd (let no = h.0 in cc)
  workers_stop run.Write many (inr (inl h)) = h.1
  workers_stop run.Write many (inr (inr h)) = h.2
  workers_stop run.TooMuch many (inl h) = absurd (let no = h.0 in cc)
  workers_stop run.TooMuch many (inr (inl h)) = h.1
  workers_stop run.TooMuch many (inr (inr h)) = h.2
  workers_stop (run.Make why) many (inl h) = absurd (let no = h.0 in cc)
  workers_stop (run.Make why) many (inr (inl h)) = h.1
  workers_stop (run.Make why) many (inr (inr h)) = h.2

-- why a text is not made can come of a run
pub text_stop : (senders : ℕ) (left : Outcome) (heards : List Hearing) (fault : RunFault)
    → IsSpelled left → IsTextFault left heards fault → IsStop senders (length heards) fault
text_stop senders left heards run.NoMemory spelled h = tt
text_stop senders left heards (run.Audit why) spelled h =
    named spelled.0 heards why (h spelled.0 spelled.1 spelled.2)
text_stop senders left heards run.Read spelled h = h
text_stop senders left heards run.Write spelled h = h
text_stop senders left heards run.TooMuch spelled h = h
text_stop senders left heards (run.Make why) spelled h = h
text_stop senders left heards run.Spawn spelled h = absurd h
text_stop senders left heards run.Gate spelled h = absurd h
text_stop senders left heards (run.Stopped s) spelled h = absurd h

-- ---- a fact of each sender's worker
-- what holds of all workers of senders holds of that of each sender
pub of_each : {D : Type 0} (number : D → ℕ) (P : D → Type 0) (xs : List D) (s : ℕ)
    → AreInOrder number xs → All P xs → s < length xs → (d : D) × (number d ≡ s) × P d
of_each number P xs s order all below =
    let there = one_there xs s below in (
      there.0,
      order s there.0 there.1,
      subst P (get_or_from_slice_get xs s there.0 there.0 there.1) (all s there.0 below),
    )
