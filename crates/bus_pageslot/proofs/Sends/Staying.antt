-- A sender stays who it is: its number, and that from which its messages are counted.
use Rattle.std.proofs.Common.{◌≡◌, ℕ, ◌==◌, Bool, true, false, cond, Option, Some, None, inl, inr}
use Rattle.std.proofs.Common.{List, refl, ◌∙◌, ap, nat_le, arith}
use Rattle.std.specs.Prelude.{◌/◌}
use Rattle.std.proofs.lemmas.Grind.{common_steps}
use Rattle.atomic_table.specs.declared.shared.Seat.{Seat}
use Rattle.rand_core.specs.Stream.{Stream}
use Rattle.bus_adoptcommit.specs.declared.verdicts.Verdict.{Verdict}
use Rattle.bus_automaton.specs.Buses.{process_with}
use Rattle.bus_automaton.specs.Lawful.{ProcessLaws}
use Rattle.bus_automaton.specs.Processes.{Process, Automaton}
use Rattle.bus_batch.specs.declared.messages.Mark.{Mark}
use Rattle.bus_core.specs.Senders.{Sender, Situation, Does, Announces, Validates, Unpins}
use Rattle.bus_core.specs.Senders.{Withdraws, Scans, Clears, ReadsPassed, situation}
use Rattle.bus_core.specs.Table.{line, seen}
use Rattle.bus_core.specs.declared.reuses.Reuse.{Reuse}
use Rattle.bus_machine.specs.Machine.{moved}
use Rattle.bus_register.specs.Protocol.{Protocol}
use Rattle.bus_register.specs.declared.kinds.Kind.{Kind}
use Rattle.bus_register.specs.declared.registers.Op.{Op}
use Rattle.bus_tenure.specs.Core.{Core, Election}
use Rattle.bus_tenure.specs.Elections.{election_with}
use Rattle.bus_tenure.specs.Situations.{IsClosed, IsIdle, IsSpent, LooksAtStage, Elects, TakesPage}
use Rattle.bus_tenure.specs.Situations.{AwaitsPage, StoresWord, StoresLength, GivesBack, HasHanded}
use Rattle.bus_tenure.specs.Situations.{waits, core_begun, core_elected}
use Rattle.bus_tenure.specs.declared.pages.Page.{Page}
use Rattle.bus_tenure.specs.declared.phases.Phase.TheVariants as phase
use Rattle.bus_tenure.specs.declared.turns.Turn.{Turn}
use Rattle.bus_world.specs.Turning.{core_with_page, after_step}
use Rattle.bus_pageslot.specs.Finishing.{Finishes, GoesThrough, Begun, Through}
use Rattle.bus_pageslot.specs.Looks.{LooksForRoom}
use Rattle.bus_pageslot.specs.Room.{Coming, GoesForRoom, SendsForRoom, StopsForRoom}
use Rattle.bus_pageslot.specs.Room as room
use Rattle.bus_pageslot.specs.Rule.{sender_trail_in}
use Rattle.bus_pageslot.specs.Seats.{SenderSeat, first_number_of}
use Rattle.bus_pageslot.specs.Staying.{IsSameSender}
use Rattle.bus_pageslot.specs.Turns.{Tellings, Turned, TurnsOn, Here, More, Sends, TakesOn, Once}
use Rattle.bus_pageslot.specs.Turns.{Again, TakesUpTo, AsksOn, Begins, Goes, Asks, SendsAsking}
use Rattle.bus_pageslot.specs.Turns.{StopsWaiting, DrawsOn, Undrawn, Drawn}
use Rattle.bus_pageslot.specs.declared.rule.View.{View}

-- ---- one step leaves the number of a sender
module _ {E : Type 0} (X : Election E) (v : Sender E) where
  abbrev Same : Core E → Type 0
  Same c = c.me ≡ v.core.me

  same_if : (b : Bool) (c d : Core E) → Same c → Same d → Same (cond b c d)
  same_if true c d h k = h
  same_if false c d h k = k

  same_seen : (r : Option Reuse) (got : ℕ) → Same (seen X v.core r got).core
  same_seen None got = grind (arith, common_steps, same_if, nat_le)
  same_seen (Some r) got = grind (arith, common_steps, same_if, nat_le)

  same_elected : (t : ℕ) (e : E) (o : Option ℕ) → Same (core_elected v.core t e o)
  same_elected t e None = refl
  same_elected t e (Some o) = grind (arith, common_steps, same_if)

  same_with_page : (c : Core E) → Same c → (t : ℕ) (home : Option Page)
      → Same (core_with_page c t home)
  same_with_page c h t None = h
  same_with_page c h t (Some page) = h

  me_after : (s : Situation E) (home : Option Page) (got word : ℕ)
      → Same (moved (after_step (line X v s).move) home ((line X v s).fed got word)).core
  me_after (Does LooksAtStage) home got word = same_seen v.reuse got
  me_after (Does (Elects t e)) home got word =
      same_elected t (X.fed e got word) (X.owner (X.fed e got word))
  me_after (Does (TakesPage t)) home got word =
      same_with_page (record v.core { phase = phase.Taken t }) refl t home
  me_after (Does (AwaitsPage t)) home got word = same_with_page v.core refl t home
  me_after (Does IsClosed) home got word = refl
  me_after (Does IsIdle) home got word = refl
  me_after (Does IsSpent) home got word = refl
  me_after (Does (StoresWord t page stored)) home got word = refl
  me_after (Does (StoresLength t page stored)) home got word = refl
  me_after (Does (GivesBack t page reason)) home got word = refl
  me_after (Does (HasHanded t reason)) home got word = refl
  me_after (Announces t) home got word = refl
  me_after (Validates t) home got word =
      same_if (got / 2 == t) (core_begun X v.core t) v.core refl refl
  me_after (Unpins t) home got word = refl
  me_after (Withdraws t) home got word = refl
  me_after (Scans s) home got word = refl
  me_after (Clears s) home got word = refl
  me_after (ReadsPassed t p) home got word = grind (arith, common_steps, same_if)

-- a process whose steps leave that
abbrev pub LeavesNumber : {C : Type 0} → Process C → Type 0
LeavesNumber {C} P =
    (c : C) (home : Option Page) (got word : ℕ) → P.me (P.after c home got word) ≡ P.me c

pub leaves_number : {S : Type 0} (kind_of : S → Option Kind) (op : S → ℕ → Option Op)
    (fed : S → ℕ → ℕ → S) (Q : Protocol S Bool Verdict)
    → LeavesNumber (process_with kind_of op fed Q)
unfolding process_with
leaves_number kind_of op fed Q v home got word =
    let X = election_with kind_of op fed Q in me_after X v (situation X v) home got word

-- ---- a look
pub looked_same : {C : Type 0} {P : Process C} (A : Automaton C) (old : SenderSeat C)
    (fits : Bool) (new : SenderSeat C) → LooksForRoom P A old fits new → IsSameSender P old new
looked_same {P = P} A old fits new h = grind (arith, common_steps)

-- ---- turns
module _ {C : Type 0} (P : Process C) (T : Tellings C) where
  same : (s : SenderSeat C) → IsSameSender P s s
  same s = record { me = refl; first = refl }

  same_on : {a b c : SenderSeat C} → IsSameSender P a b → IsSameSender P b c → IsSameSender P a c
  same_on h k = record { me = k.me ∙ h.me; first = k.first ∙ h.first }

  module _ (L : LeavesNumber P) where
    pub turned_same : (old : SenderSeat C) (word : ℕ) (answer : Turn) (new : SenderSeat C)
        → Turned P T old word answer new → IsSameSender P old new
    turned_same old word answer new h = grind (arith, common_steps)

    turns_same : (first new : SenderSeat C) → TurnsOn P T first new → IsSameSender P first new
    turns_same first _ Here = same first
    turns_same first _ (More old word answer new before turned last) =
        same_on (turns_same first old before) (turned_same old word answer new turned)

    pub sends_same : (first : SenderSeat C) (answer : Turn) (new : SenderSeat C)
        → Sends P T first answer new → IsSameSender P first new
    sends_same first answer new h =
        same_on (turns_same first h.old h.before) (turned_same h.old h.word answer new h.turned)

    takes_same : (first : SenderSeat C) (word n : ℕ) (answer : Turn) (new : SenderSeat C)
        → TakesOn P T first word n answer new → IsSameSender P first new
    takes_same first word _ _ _ (Once answer new turned) = turned_same first word answer new turned
    takes_same first word _ _ _ (Again n before old any answer new takes goes wordless turned) =
        same_on (takes_same first word n before old takes) (turned_same old any answer new turned)

    pub takes_up_to_same : (first : SenderSeat C) (word more : ℕ) (answer : Turn)
        (new : SenderSeat C) → TakesUpTo P T first word more answer new
        → IsSameSender P first new
    takes_up_to_same first word more answer new h = takes_same first word h.n answer new h.takes

    pub draws_same : (first : SenderSeat C) (given : Stream) (new : SenderSeat C) (left : Stream)
        → DrawsOn P T first given new left → IsSameSender P first new
    draws_same first given _ _ Undrawn = same first
    draws_same first given _ _ (Drawn old words answer new before turned) =
        same_on (draws_same first given old words before) (turned_same old _ answer new turned)

    module _ {F : Type 0} (Tells : F → Bool → F → Type 0) (first : SenderSeat C) (given : F) where
      asks_same : (new : SenderSeat C) (f : F) → AsksOn P T Tells first given new f
          → IsSameSender P first new
      asks_same _ _ Begins = same first
      asks_same _ _ (Goes old f word answer new before turned last goes) =
          same_on (asks_same old f before) (turned_same old word answer new turned)
      asks_same _ _ (Asks old f word answer new f' before turned waits told) =
          same_on (asks_same old f before) (turned_same old word answer new turned)

      pub asking_same : (answer : Turn) (new : SenderSeat C)
          → SendsAsking P T Tells first given answer new → IsSameSender P first new
      asking_same answer new h = grind (arith, common_steps, same_on, asks_same, turned_same)

      pub stops_same : (new : SenderSeat C) → StopsWaiting P T Tells first given new
          → IsSameSender P first new
      stops_same new h = grind (arith, common_steps, same_on, asks_same, turned_same)

      room_same : {A : Automaton C} (next : Coming) (new : SenderSeat C) (f : F)
          → GoesForRoom P A T Tells first given next new f → IsSameSender P first new
      room_same _ _ _ room.Begins = same first
      room_same _ _ _ (room.Goes old f word answer new before turned last goes) =
          same_on (room_same _ old f before) (turned_same old word answer new turned)
      room_same _ _ _ (room.Asks old f word answer new f' before turned waits told) =
          same_on (room_same _ old f before) (turned_same old word answer new turned)
      room_same _ _ _ (room.Fills old f word new before turned) =
          same_on (room_same _ old f before) (turned_same old word _ new turned)
      room_same _ _ _ (room.FindsNone looks old f f' new before few told look) =
          same_on (room_same _ old f before) (looked_same _ old false new look)
      room_same _ _ _ (room.FindsRoom looks old f f' new before few told look) =
          same_on (room_same _ old f before) (looked_same _ old true new look)
      room_same _ _ _ (room.Tries old f before) = room_same _ old f before

      pub sends_for_room_same : {A : Automaton C} (answer : Turn) (new : SenderSeat C)
          → SendsForRoom P A T Tells first given answer new → IsSameSender P first new
      sends_for_room_same answer new h = grind (arith, same_on, room_same, turned_same)

      pub stops_for_room_same : {A : Automaton C} (new : SenderSeat C)
          → StopsForRoom P A T Tells first given new → IsSameSender P first new
      stops_for_room_same new (inl h) = grind (arith, common_steps, same_on, room_same, turned_same)
      stops_for_room_same new (inr h) = room_same _ new h.asked h.before

-- ---- the turns of a tenure
module _ {E : Type 0} (P : Process (Sender E)) (T : Tellings (Sender E)) (L : LeavesNumber P)
  where
    pub through_same : (tenure : ℕ) (first : SenderSeat (Sender E)) (count : ℕ)
        (new : SenderSeat (Sender E)) → GoesThrough P T tenure first count new
        → IsSameSender P first new
    through_same tenure first _ _ (Begun begun) = same P T first
    through_same tenure first _ _
        (Through count old word answer new before turned last behind begun) =
        same_on P T (through_same tenure first count old before)
        (turned_same P T L old word answer new turned)

    pub finishes_same : (X : Election E) (first : SenderSeat (Sender E)) (answer : Turn)
        (new : SenderSeat (Sender E)) → Finishes X P T first answer new → IsSameSender P first new
    finishes_same X first answer new h = grind (arith, same_on, through_same, turned_same)

-- ---- what it takes between its turns
module _ {C : Type 0} (P : Process C) (K : ProcessLaws P) (old new : SenderSeat C)
    (seat : new.seat ≡ old.seat) where
  same_first : first_number_of P new ≡ first_number_of P old
  same_first = ap (λ (z : Seat (Option Page) (View C)). (sender_trail_in z.me.0).first) seat

  pub put_same : (bytes : List ℕ) → new.core ≡ P.with_message old.core bytes
      → IsSameSender P old new
  put_same bytes is = grind (arith, common_steps, same_first)

  pub marked_same : (mark : Mark) → new.core ≡ P.with_mark old.core mark → IsSameSender P old new
  marked_same mark is = grind (arith, common_steps, same_first)
