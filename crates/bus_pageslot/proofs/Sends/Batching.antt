-- What a turn, and a sending, makes of the messages that wait; and of batches that a sender fills
-- and sends off.
use Rattle.std.proofs.Common.{◌≡◌, ℕ, ◌<◌, ◌≤◌, ◌-◌, true, Option, Some, None, List, [], ◌++◌}
use Rattle.std.proofs.Common.{length, take, slice_get, arith, refl, sym, ◌∙◌, ap, subst}
use Rattle.std.proofs.Common.{append_assoc, inl, inr}
use Rattle.std.specs.Prelude.{◌⊎◌, Result, Ok, Err, OnOk}
use Rattle.std.proofs.lemmas.List.{append-nil, length-append}
use Rattle.std.proofs.lemmas.Grind.{common_steps}
use Rattle.bus_register.specs.declared.registers.Op.{Op}
use Rattle.bus_batch.specs.declared.batches.PutFault.{PutFault}
use Rattle.bus_batch.specs.declared.batches.PutFault.TheVariants as put
use Rattle.bus_tenure.specs.declared.turns.Turn.{Turn}
use Rattle.bus_world.specs.Headline.{puts}
use Rattle.bus_pageslot.specs.declared.seats.SendFault.{SendFault}
use Rattle.bus_pageslot.specs.declared.seats.SendFault.TheVariants as fault
use Rattle.bus_pageslot.specs.declared.seats.Unsent.{Unsent}
use Rattle.bus_automaton.specs.Processes.{Process}
use Rattle.bus_automaton.specs.Lawful.{ProcessLaws}
use Rattle.bus_pageslot.specs.Seats.{SenderSeat, actions_of}
use Rattle.bus_pageslot.specs.Turns.{Tellings, Turned, TurnsOn, Here, More, Sends}
use Rattle.bus_tenure.specs.Classes.{is_last, is_refusal}
use Rattle.bus_pageslot.specs.Sendings.{limit_of, waiting_of, SendsOff, Keeps, KeepsFor}
use Rattle.bus_pageslot.specs.Sendings.{FillsBatches}
use Rattle.bus_pageslot.specs.Sendings.{SentBefore, Put, SentFull, HasSent, Refuses, StopsAt}
use Rattle.bus_pageslot.specs.Sendings.{Stops, can_come, WaitsOf, HasSentPart}
use Rattle.bus_pageslot.proofs.Sends.Sending.{sending_puts, fills_puts}

module _ {C : Type 0} (P : Process C) (T : Tellings C) (K : ProcessLaws P) where
  abbrev Left : SenderSeat C → SenderSeat C → Type 0
  Left old new = (waiting_of P new ≡ waiting_of P old) ⊎ (waiting_of P new ≡ [])

  turned_left : (old : SenderSeat C) (word : ℕ) (a : Turn) (new : SenderSeat C)
      → Turned P T old word a new → Left old new
  turned_left old word a new h = grind (arith, common_steps)

  turned_refused : (old : SenderSeat C) (word : ℕ) (a : Turn) (new : SenderSeat C)
      → Turned P T old word a new → is_last a ≡ true → 0 < length (waiting_of P new)
      → is_refusal a ≡ true
  turned_refused old word a new h = by_step (P.op old.core word) refl
    where
      by_step : (o : Option Op) → P.op old.core word ≡ o → is_last a ≡ true
          → 0 < length (waiting_of P new) → is_refusal a ≡ true
      by_step None e = grind (arith, common_steps, length)
      by_step (Some op) e = grind (arith, common_steps, length)

  then_left : (first old new : SenderSeat C) → Left first old → Left old new → Left first new
  then_left first old new (inl before) (inl now) = inl (now ∙ before)
  then_left first old new (inr none) (inl now) = inr (now ∙ none)
  then_left first old new before (inr none) = inr none

  turns_left : (first new : SenderSeat C) → TurnsOn P T first new → Left first new
  turns_left first _ Here = inl refl
  turns_left first _ (More old word answer new before turned last) =
      then_left first old new (turns_left first old before) (turned_left old word answer new turned)

  -- ---- one batch
  kept_one : (old new : SenderSeat C) → Left old new → 0 < length (waiting_of P new)
      → waiting_of P new ≡ waiting_of P old
  kept_one old new (inl same) some = same
  kept_one old new (inr none) some = absurd (let size = ap length none in omega (arith, some))

  pub keeps : (old : SenderSeat C) (answer : Turn) (new : SenderSeat C) → Sends P T old answer new
      → 0 < length (waiting_of P new) → Keeps P T old answer new
  keeps old answer new h some =
      grind (arith, common_steps, turned_refused, kept_one, then_left, turns_left, turned_left)

  -- ---- batches
  pub fills_few : (first : SenderSeat C) (messages : List (List ℕ)) (new : SenderSeat C)
      → FillsBatches P T first messages new → length (waiting_of P new) ≤ limit_of P new
  fills_few first _ _ (SentBefore new off) = let size = ap length off.none in omega arith
  fills_few first _ _ (Put messages old bytes new before takes) =
      grind (arith, common_steps, length, length-append)
  fills_few first _ _ (SentFull messages old new before full off) =
      let size = ap length off.none in omega arith

  pub fills_waits : (first : SenderSeat C) (messages : List (List ℕ)) (new : SenderSeat C)
      → FillsBatches P T first messages new → WaitsOf P first messages new
  fills_waits first _ _ (SentBefore new off) = record {
    gone = waiting_of P first;
    waits = ap (λ l. waiting_of P first ++ l) (sym off.none);
  }
  fills_waits first _ _ (Put messages old bytes new before takes) =
      let h : WaitsOf P first messages old = fills_waits first messages old before in
      grind (arith, append_assoc)
  fills_waits first _ _ (SentFull messages old new before full off) = record {
    gone = waiting_of P first ++ messages;
    waits = grind (arith, common_steps, append-nil);
  }

  keeps_waits : (first : SenderSeat C) (messages : List (List ℕ)) (old : SenderSeat C)
      (answer : Turn) (new : SenderSeat C) → WaitsOf P first messages old → Keeps P T old answer new
      → WaitsOf P first messages new
  keeps_waits first messages old answer new h k = grind (arith, common_steps)

  pub has_sent : (first : SenderSeat C) (messages : List (List ℕ)) (old new : SenderSeat C)
      → FillsBatches P T first messages old → SendsOff P T old new → HasSent P T first messages new
  has_sent first messages old new h off = record {
    old = old;
    fills = h;
    rest = off;
    puts_are =
        sending_puts P T K old off.answer new off.sends ∙ fills_puts P T K first messages old h;
  }

  -- a full batch that is sent off goes on
  pub room_made : (old new : SenderSeat C) (result : Result (Unit {0}) SendFault)
      → limit_of P old ≤ length (waiting_of P old) → OnOk result (SendsOff P T old new)
      → OnOk result ((first : SenderSeat C) (messages : List (List ℕ))
      → FillsBatches P T first messages old → FillsBatches P T first messages new)
  room_made old new (Ok u) full off = λ first messages before. SentFull messages old new before
      (let few = fills_few first messages old before in omega arith) off
  room_made old new (Err e) full off = tt

  -- ---- where it stops
  -- the batch that is to be sent off is full
  pub stops_full : (first : SenderSeat C) (messages : List (List ℕ)) (bytes : List ℕ)
      (why : SendFault) (old new : SenderSeat C) → FillsBatches P T first messages old
      → limit_of P old ≤ length (waiting_of P old) → KeepsFor P T old why new
      → StopsAt P T first messages (Some bytes) why new
  stops_full first messages bytes (fault.Put why) old new h full keeps = absurd keeps
  stops_full first messages bytes (fault.Turn answer) old new h full keeps = (
    old,
    h,
    (let few = fills_few first messages old h in omega arith),
    keeps,
  )

  -- or no message comes next
  pub stops_last :
      (first : SenderSeat C) (messages : List (List ℕ)) (why : SendFault) (old new : SenderSeat C)
      → FillsBatches P T first messages old → KeepsFor P T old why new
      → StopsAt P T first messages None why new
  stops_last first messages (fault.Put why) old new h keeps = absurd keeps
  stops_last first messages (fault.Turn answer) old new h keeps = (old, h, tt, keeps)

  can_refuse : (new : SenderSeat C) (next : Option (List ℕ)) (why : PutFault)
      → Refuses P new next why → can_come (fault.Put why) ≡ true
  can_refuse new next put.Closed h = refl
  can_refuse new next put.Busy h = refl
  can_refuse new next put.TooLong h =
      absurd (let short = h.short in let long = h.cause.2 in omega arith)
  can_refuse new next put.BatchFull h =
      absurd (let room = h.room in let full = h.cause.3 in omega arith)

  module _ (first : SenderSeat C) (messages : List (List ℕ)) (new : SenderSeat C) where
    -- what holds wherever it stops
    record Ends (count : ℕ) (why : SendFault) : Type 0 where
      can : can_come why ≡ true
      puts_are : puts (actions_of P new) ≡ puts (actions_of P first) ++ take count messages
      waits : WaitsOf P first (take count messages) new

    ends_before : (count : ℕ) (why : SendFault) → (count ≡ 0) × KeepsFor P T first why new
        → Ends count why
    ends_before count (fault.Put why) h = absurd h.1
    ends_before count (fault.Turn answer) h =
        subst (λ k. Ends k (fault.Turn answer)) (sym h.0) (record {
          can = h.1.refused;
          puts_are =
              sending_puts P T K first answer new h.1.sends
              ∙ sym (append-nil (puts (actions_of P first)));
          waits = record { gone = []; waits = append-nil (waiting_of P first) ∙ sym h.1.same };
        })

    ends_at : (count : ℕ) (why : SendFault)
        → StopsAt P T first (take count messages) (slice_get messages count) why new
        → Ends count why
    ends_at count (fault.Put why) h =
        grind (arith, common_steps, can_refuse, slice_get, fills_puts, take, fills_waits)
    ends_at count (fault.Turn answer) h =
        let old = h.0 in
        let stays = h.3 in
        record {
          can = stays.refused;
          puts_are =
              sending_puts P T K old answer new stays.sends
              ∙ fills_puts P T K first (take count messages) old h.1;
          waits = keeps_waits first (take count messages) old answer new
              (fills_waits first (take count messages) old h.1) stays;
        }

    ends : (count : ℕ) (why : SendFault) → Stops P T first messages count why new → Ends count why
    ends count why (inl h) = ends_before count why h
    ends count why (inr h) = ends_at count why h

    pub has_sent_part : (unsent : Unsent) (count : ℕ) (why : SendFault)
        → (unsent.put ≡ count) × (unsent.fault ≡ why)
        → unsent.sent ≡ count - length (waiting_of P new) → count ≤ length messages
        → Stops P T first messages count why new → HasSentPart P T first messages unsent new
    has_sent_part unsent count why is sent few stops =
        let now : Stops P T first messages unsent.put unsent.fault new = subst
        (λ (y : ℕ × SendFault). Stops P T first messages y.0 y.1 new)
        (λ i. (sym is.0 i, sym is.1 i)) stops in
        let h : Ends unsent.put unsent.fault = ends unsent.put unsent.fault now in
        grind (arith, common_steps, length)
