-- What waits with one sender, put into the batch of another.
use Rattle.std.proofs.Common.{◌≡◌, ℕ, ◌+◌, ◌<◌, ◌≤◌, get_or, take, drop, List, [], ◌∷◌, ◌++◌}
use Rattle.std.proofs.Common.{length, arith, refl, sym, ◌∙◌, ap, append_assoc, inl, inr}
use Rattle.std.proofs.lemmas.List.{append-nil, length-append, take_more, take-append-drop}
use Rattle.std.proofs.lemmas.Grind.{common_steps}
use Rattle.bus_batch.specs.Batches.{Pending, next_of, IsShut, IsPutFault}
use Rattle.bus_batch.specs.declared.batches.Phase.TheVariants.{Open, Marking, Closed}
use Rattle.bus_batch.specs.declared.batches.PutFault.{PutFault}
use Rattle.bus_core.specs.Senders.{Sender}
use Rattle.bus_world.specs.Headline.{HasPut}
use Rattle.bus_automaton.specs.Processes.{Process}
use Rattle.bus_automaton.specs.Lawful.{ProcessLaws}
use Rattle.bus_pageslot.specs.Seats.{SenderSeat, actions_of}
use Rattle.bus_pageslot.specs.Sendings.{limit_of, waiting_of, TakesAll, TakesNone, TakesMore}
use Rattle.bus_pageslot.specs.Sendings.{Carries}
use Rattle.bus_pageslot.specs.Sendings.{CarryRefused}
use Rattle.bus_pageslot.specs.Steps.{puts_from}
use Rattle.bus_pageslot.proofs.SeatSteps.Accepting.{puts_from-snoc}

-- those before a place, what is there, and those behind it
pub split_at : (all : List (List ℕ)) (i : ℕ) (y : List ℕ) → i < length all → y ≡ get_or all i y
    → take i all ++ y ∷ drop (i + 1) all ≡ all
split_at all i y l is = sym (append_assoc (take i all) (y ∷ []) (drop (i + 1) all))
    ∙ ap (λ z. z ++ drop (i + 1) all)
    (ap (λ z. take i all ++ z ∷ []) is ∙ sym (take_more all i y l)) ∙ take-append-drop (i + 1) all

-- a batch that takes messages is not shut
open_shut : (q : Pending) → q.phase ≡ Open → IsShut q → ⊥
open_shut q is (inl marks) = let e : Open ≡ Marking marks.0 = sym is ∙ marks.1 in cc
open_shut q is (inr closed) = let e : Open ≡ Closed = sym is ∙ closed in cc

module _ {C : Type 0} (P : Process C) (K : ProcessLaws P) where
  -- they wait behind what waited
  takes_waits : (first : SenderSeat C) (messages : List (List ℕ)) (new : SenderSeat C)
      → TakesAll P first messages new
      → waiting_of P new ≡ waiting_of P first ++ messages
  takes_waits first _ _ TakesNone = sym (append-nil (waiting_of P first))
  takes_waits first _ _ (TakesMore messages old bytes new before takes) =
      ap (λ (s : C). (P.queue s).messages) takes.core
      ∙ ap (λ (q : Pending). q.messages) (K.message_waits old.core bytes)
      ∙ ap (λ l. l ++ bytes ∷ []) (takes_waits first messages old before)
      ∙ append_assoc (waiting_of P first) messages (bytes ∷ [])

  takes_first : (first : SenderSeat C) (messages : List (List ℕ)) (new : SenderSeat C)
      → TakesAll P first messages new
      → (P.queue new.core).first ≡ (P.queue first.core).first
  takes_first first _ _ TakesNone = refl
  takes_first first _ _ (TakesMore messages old bytes new before takes) =
      ap (λ (s : C). (P.queue s).first) takes.core
      ∙ ap (λ (q : Pending). q.first) (K.message_waits old.core bytes)
      ∙ takes_first first messages old before

  takes_limit : (first : SenderSeat C) (messages : List (List ℕ)) (new : SenderSeat C)
      → TakesAll P first messages new → limit_of P new ≡ limit_of P first
  takes_limit first _ _ TakesNone = refl
  takes_limit first _ _ (TakesMore messages old bytes new before takes) =
      ap (λ (s : C). (P.queue s).limit) takes.core
      ∙ ap (λ (q : Pending). q.limit) (K.message_waits old.core bytes)
      ∙ takes_limit first messages old before

  pub takes_seat : (first : SenderSeat C) (messages : List (List ℕ)) (new : SenderSeat C)
      → TakesAll P first messages new
      → new.seat ≡ first.seat
  takes_seat first _ _ TakesNone = refl
  takes_seat first _ _ (TakesMore messages old bytes new before takes) =
      takes.seat ∙ takes_seat first messages old before

  -- they have the next numbers
  takes_actions : (first : SenderSeat C) (messages : List (List ℕ)) (new : SenderSeat C)
      → TakesAll P first messages new
      → actions_of P new ≡ actions_of P first ++ puts_from (next_of (P.queue first.core)) messages
  takes_actions first _ _ TakesNone = sym (append-nil (actions_of P first))
  takes_actions first _ _ (TakesMore messages old bytes new before takes) =
      let n = next_of (P.queue first.core) in
      let size = ap length (takes_waits first messages old before) in
      let more = length-append (waiting_of P first) messages in
      let same = takes_first first messages old before in
      takes.action
      ∙ ap (λ l. l ++ HasPut (next_of (P.queue old.core)) bytes ∷ [])
      (takes_actions first messages old before)
      ∙ append_assoc (actions_of P first) (puts_from n messages)
      (HasPut (next_of (P.queue old.core)) bytes ∷ [])
      ∙ ap (λ l. actions_of P first ++ l)
      (sym (puts_from-snoc n messages bytes (next_of (P.queue old.core)) (omega arith)))

  pub carries : (from old new : SenderSeat C) → TakesAll P old (waiting_of P from) new
      → Carries P from old new
  carries from old new h = grind (arith, common_steps, takes_actions, takes_waits)

  -- ---- where one is refused
  -- who has taken a message takes another, where that fits and is not too long
  goes_on : (old : SenderSeat C) (messages : List (List ℕ)) (new : SenderSeat C) (next : List ℕ)
      → TakesAll P old messages new
      → length (waiting_of P new) < limit_of P new → length next ≤ 56 → (why : PutFault)
      → IsPutFault (P.queue new.core) (length next) why
      → (messages ≡ []) × (new ≡ old)
  goes_on old _ _ next TakesNone room short why cause = (refl, refl)
  goes_on old _ _ next (TakesMore messages last bytes new before takes) room short why cause =
      grind (arith, common_steps, length, open_shut)

module _ {E : Type 0} (P : Process (Sender E)) (K : ProcessLaws P) where
  -- so the first is refused, if any is
  pub refused : (from old : SenderSeat (Sender E)) (messages rest : List (List ℕ)) (next : List ℕ)
      (new : SenderSeat (Sender E))
      → TakesAll P old messages new → messages ++ next ∷ rest ≡ waiting_of P from
      → length (waiting_of P old) + length (waiting_of P from) ≤ limit_of P old → length next ≤ 56
      → (why : PutFault) → IsPutFault (P.queue new.core) (length next) why
      → (new ≡ old) × CarryRefused P from old why
  refused from old messages rest next new h all room short why cause =
      grind (arith, common_steps, length, takes_waits, takes_limit, length-append, goes_on)
