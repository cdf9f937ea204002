-- A sender that waits for room: what its turns and looks keep, and what they do not allow.
use Rattle.std.proofs.Common.{◌≡◌, ℕ, ◌≤◌, arith, Bool, true, inl, inr, refl, ◌∙◌, ap, subst}
use Rattle.std.proofs.lemmas.Grind.{common_steps}
use Rattle.rand_core.specs.Stream.{Stream}
use Rattle.bus_tenure.specs.declared.turns.Turn.{Turn}
use Rattle.bus_tenure.specs.declared.turns.Turn.TheVariants as turn
use Rattle.bus_tenure.specs.declared.turns.Turn.TheVariants.{Going}
use Rattle.bus_tenure.specs.Classes.{is_refusal}
use Rattle.bus_tenure.specs.Core.{is_closing}
use Rattle.bus_world.specs.Headline.{puts}
use Rattle.bus_automaton.specs.Lawful.{ProcessLaws}
use Rattle.bus_automaton.specs.Processes.{Process, Automaton}
use Rattle.bus_pageslot.specs.Seats.{SenderSeat, actions_of}
use Rattle.bus_pageslot.specs.Sendings.{waiting_of, KeptAfter}
use Rattle.bus_pageslot.specs.Turns.{Tellings, Turned, GoesPlainly, NoneYet, Next, Undrawn}
use Rattle.bus_pageslot.specs.Turns.{TakesSome}
use Rattle.bus_pageslot.specs.Room.{Coming, Turning, Looking, GoesForRoom, Begins, Goes, Asks}
use Rattle.bus_pageslot.specs.Room.{Fills, FindsNone, FindsRoom, Tries, SendsForRoom, StopsForRoom}
use Rattle.bus_pageslot.specs.Room.{GoesOnTimes, RoomRefuses, DrawsForRoom, Drawn, most_looks}
use Rattle.bus_pageslot.proofs.Ruled.Keeping.{Stays, LeavesBatch, turned_left}
use Rattle.bus_pageslot.proofs.SeatSteps.Plain.{goes_drawing}
use Rattle.bus_pageslot.proofs.Sends.Sending.{turned_puts, drawn_on, waiting_goes}

-- ---- turns in a row
-- nobody asks behind turns that answer Going
pub goes_in_row : {C F : Type 0} {P : Process C} {A : Automaton C} {T : Tellings C}
    {Tells : F → Bool → F → Type 0} {first : SenderSeat C} {given f : F} {So : C → Type 0}
    {old : SenderSeat C} (n : ℕ) (new : SenderSeat C)
    → GoesForRoom P A T Tells first given Turning old f → GoesPlainly P T So old n new
    → GoesForRoom P A T Tells first given Turning new f
goes_in_row _ _ before NoneYet = before
goes_in_row {f = f} _ _ before (Next n mid new goes one) =
    Goes mid f 0 Going new (goes_in_row n mid before goes) one.turned refl refl

-- and they draw as they do by themselves
pub plain_for_room : {C : Type 0} {So : C → Type 0} (P : Process C) (A : Automaton C)
    (T : Tellings C) (first : SenderSeat C) (given words : Stream) (old : SenderSeat C) (n : ℕ)
    (new : SenderSeat C) → DrawsForRoom P A T first given old words → GoesPlainly P T So old n new
    → DrawsForRoom P A T first given new words
plain_for_room P A T first given words old n new before goes = Drawn old words new words before
    (goes_drawing P T old words words old n new Undrawn goes)

-- what led to the last turn of a row, and that turn
pub record RowsLast {C F : Type 0} (P : Process C) (A : Automaton C) (T : Tellings C)
    (Tells : F → Bool → F → Type 0) (first : SenderSeat C) (given f : F) (words : Stream)
    (answer : Turn) (new : SenderSeat C) (left : Stream) : Type 0 where
  pub old : SenderSeat C
  pub word : ℕ
  pub before : GoesForRoom P A T Tells first given Turning old f
  pub turned : Turned P T old word answer new
  pub draws : DrawsForRoom P A T first words new left

-- plain stores, none or more, and then others, of which the last one was answered so
pub rows_last : {C F : Type 0} {P : Process C} {A : Automaton C} {T : Tellings C}
    {Tells : F → Bool → F → Type 0} {first : SenderSeat C} {given f : F} {words : Stream}
    {So : C → Type 0} {at mid : SenderSeat C} {n : ℕ} {before : Stream} (answer : Turn)
    (new : SenderSeat C) (left : Stream) → GoesForRoom P A T Tells first given Turning at f
    → DrawsForRoom P A T first words at before
    → GoesPlainly P T So at n mid → TakesSome P T mid before answer new left
    → RowsLast P A T Tells first given f words answer new left
rows_last {P = P} {A = A} {T = T} {first = first} {words = words} {at = at} {mid = mid} {n = n}
    {before = before} answer new left goes draws plain some = record {
      old = some.old;
      word = some.last.word;
      before = goes_in_row some.n some.old (goes_in_row n mid goes plain) some.before;
      turned = some.last.turned;
      draws = Drawn mid before new left
          (plain_for_room P A T first words before at n mid draws plain)
          (drawn_on P T mid before some.old before some.last.word answer new left some.last.drawn
          (goes_drawing P T mid before before mid some.n some.old Undrawn some.before)
          some.last.turned);
    }

-- a turn that answered Full
pub fills : {C F : Type 0} {P : Process C} {A : Automaton C} {T : Tellings C}
    {Tells : F → Bool → F → Type 0} {first : SenderSeat C} {given f : F} {old : SenderSeat C}
    {word : ℕ} {answer : Turn} {new : SenderSeat C}
    → GoesForRoom P A T Tells first given Turning old f → answer ≡ turn.Full
    → Turned P T old word answer new → GoesForRoom P A T Tells first given (Looking 0) new f
fills {P = P} {T = T} {f = f} {old = old} {word = word} {new = new} before full turned =
    Fills old f word new before (subst (λ a. Turned P T old word a new) full turned)

-- ---- what is kept
module _ {C F : Type 0} (P : Process C) (A : Automaton C) (T : Tellings C)
    (Tells : F → Bool → F → Type 0) (first : SenderSeat C) (given : F) where
  -- nothing is put
  pub for_room_puts : ProcessLaws P → (next : Coming) (new : SenderSeat C) (f : F)
      → GoesForRoom P A T Tells first given next new f
      → puts (actions_of P new) ≡ puts (actions_of P first)
  for_room_puts K _ _ _ Begins = refl
  for_room_puts K _ _ _ (Goes old f word answer new before turned last other) =
      turned_puts P T K old word answer new turned ∙ for_room_puts K Turning old f before
  for_room_puts K _ _ _ (Asks old f word answer new f' before turned waits told) =
      turned_puts P T K old word answer new turned ∙ for_room_puts K Turning old f before
  for_room_puts K _ _ _ (Fills old f word new before turned) =
      turned_puts P T K old word turn.Full new turned ∙ for_room_puts K Turning old f before
  for_room_puts K _ _ _ (FindsNone looks old f f' new before few told look) =
      ap (λ t. puts t.actions) look.did
      ∙ for_room_puts K (Looking looks) old f before
  for_room_puts K _ _ _ (FindsRoom looks old f f' new before few told look) =
      ap (λ t. puts t.actions) look.did
      ∙ for_room_puts K (Looking looks) old f before
  for_room_puts K _ _ _ (Tries old f before) = for_room_puts K (Looking most_looks) old f before

  pub sends_puts : ProcessLaws P → (answer : Turn) (new : SenderSeat C)
      → SendsForRoom P A T Tells first given answer new
      → puts (actions_of P new) ≡ puts (actions_of P first)
  sends_puts K answer new h = grind (arith, common_steps, turned_puts, for_room_puts)

  pub stopped_puts : ProcessLaws P → (new : SenderSeat C)
      → StopsForRoom P A T Tells first given new
      → puts (actions_of P new) ≡ puts (actions_of P first)
  stopped_puts K new (inl h) = grind (arith, common_steps, turned_puts, for_room_puts)
  stopped_puts K new (inr h) = for_room_puts K (Looking h.looks) new h.asked h.before

  module _ (L : LeavesBatch P) where
    -- the batch waits
    pub for_room_stays : (next : Coming) (new : SenderSeat C) (f : F)
        → GoesForRoom P A T Tells first given next new f
        → Stays (P.queue first.core) (P.queue new.core)
    for_room_stays _ _ _ Begins = (refl, refl)
    for_room_stays _ _ _ (Goes old f word answer new before turned last other) =
        let h = for_room_stays Turning old f before in
        let k = (turned_left P T L old word answer new turned).0 last in
        (k.0 ∙ h.0, k.1 ∙ h.1)
    for_room_stays _ _ _ (Asks old f word answer new f' before turned waits told) =
        let h = for_room_stays Turning old f before in
        let k = (turned_left P T L old word answer new turned).0 (waiting_goes answer waits) in
        (k.0 ∙ h.0, k.1 ∙ h.1)
    for_room_stays _ _ _ (Fills old f word new before turned) =
        let h = for_room_stays Turning old f before in
        let k = (turned_left P T L old word turn.Full new turned).1 refl in
        (k.0 ∙ h.0, k.1 ∙ h.1)
    for_room_stays _ _ _ (FindsNone looks old f f' new before few told look) =
        let h = for_room_stays (Looking looks) old f before in (
          ap (λ d. (P.queue d).messages) look.core ∙ h.0,
          ap (λ d. is_closing (P.queue d).phase) look.core ∙ h.1,
        )
    for_room_stays _ _ _ (FindsRoom looks old f f' new before few told look) =
        let h = for_room_stays (Looking looks) old f before in (
          ap (λ d. (P.queue d).messages) look.core ∙ h.0,
          ap (λ d. is_closing (P.queue d).phase) look.core ∙ h.1,
        )
    for_room_stays _ _ _ (Tries old f before) = for_room_stays (Looking most_looks) old f before

    -- also behind a refusal
    pub for_room_keeps : (answer : Turn) (new : SenderSeat C)
        → SendsForRoom P A T Tells first given answer new → is_refusal answer ≡ true
        → KeptAfter P first answer new
    for_room_keeps answer new h refused = grind (arith, common_steps, for_room_stays, turned_left)

    -- and where it was told to stop
    pub stopped_waits : (new : SenderSeat C) → StopsForRoom P A T Tells first given new
        → waiting_of P new ≡ waiting_of P first
    stopped_waits new (inl h) = grind (arith, turned_left, waiting_goes, for_room_stays)
    stopped_waits new (inr h) = (for_room_stays (Looking h.looks) new h.asked h.before).0

-- ---- what is refused
-- each call but the last told to go on
told_few : {C : Type 0} (P : Process C) (A : Automaton C) (T : Tellings C) (first : SenderSeat C)
    (times : ℕ) (next : Coming) (new : SenderSeat C) (count : ℕ)
    → GoesForRoom P A T (GoesOnTimes times) first 0 next new count → count ≤ times
told_few P A T first times _ _ _ Begins = omega arith
told_few P A T first times _ _ _ (Goes old f word answer new before turned last other) =
    told_few P A T first times Turning old f before
told_few P A T first times _ _ _ (Asks old f word answer new f' before turned waits told) =
    let next = told.0 in let below = told.1 refl in omega arith
told_few P A T first times _ _ _ (Fills old f word new before turned) =
    told_few P A T first times Turning old f before
told_few P A T first times _ _ _ (FindsNone looks old f f' new before few told look) =
    let next = told.0 in let below = told.1 refl in omega arith
told_few P A T first times _ _ _ (FindsRoom looks old f f' new before few told look) =
    let next = told.0 in let below = told.1 refl in omega arith
told_few P A T first times _ _ _ (Tries old f before) =
    told_few P A T first times (Looking most_looks) old f before

pub room_refuses : {C F : Type 0} (P : Process C) (A : Automaton C) (T : Tellings C)
    (Tells : F → Bool → F → Type 0) (first new : SenderSeat C) (given f : F) → LeavesBatch P
    → RoomRefuses P A T Tells first new given f
room_refuses P A T Tells first new given f L =
    grind (arith, common_steps, told_few, for_room_stays, stopped_waits)
