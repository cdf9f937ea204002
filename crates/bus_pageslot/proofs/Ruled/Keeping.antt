-- A batch that is not sent is kept: what turns leave of the messages that wait.
use Rattle.std.proofs.Common.{◌≡◌, ℕ, Bool, true, false, cond, Option, Some, None, inl, refl, ◌∙◌}
use Rattle.std.proofs.Common.{nat_le, arith}
use Rattle.std.specs.Prelude.{◌⊎◌}
use Rattle.std.proofs.lemmas.Bool.{true≢false}
use Rattle.std.proofs.lemmas.Grind.{common_steps}
use Rattle.bus_adoptcommit.specs.declared.verdicts.Verdict.{Verdict}
use Rattle.bus_automaton.specs.Buses.{process_with}
use Rattle.bus_tenure.specs.Classes.{is_last, is_refusal}
use Rattle.bus_automaton.specs.Processes.{Process}
use Rattle.bus_batch.specs.Batches.{Pending}
use Rattle.bus_batch.specs.declared.batches.Phase.{Phase as BatchPhase}
use Rattle.bus_batch.specs.declared.batches.Phase.TheVariants.{Open, Marking, Closed}
use Rattle.bus_batch.specs.declared.messages.Mark.TheVariants as mark
use Rattle.bus_core.specs.Keeping.{queue_of}
use Rattle.bus_core.specs.Senders.{Sender, Situation, Does, Announces, Validates, Unpins}
use Rattle.bus_core.specs.Senders.{Withdraws, Scans, Clears, ReadsPassed, situation}
use Rattle.bus_core.specs.Table.{line, seen}
use Rattle.bus_core.specs.declared.reuses.Reuse.{Reuse}
use Rattle.bus_machine.specs.Machine.{moved}
use Rattle.bus_register.specs.Protocol.{Protocol}
use Rattle.bus_register.specs.declared.kinds.Kind.{Kind}
use Rattle.bus_register.specs.declared.registers.Op.{Op}
use Rattle.bus_tenure.specs.Core.{Core, Election, is_closing}
use Rattle.bus_tenure.specs.Elections.{election_with}
use Rattle.bus_tenure.specs.Situations.{IsClosed, IsIdle, IsSpent, LooksAtStage, Elects, TakesPage}
use Rattle.bus_tenure.specs.Situations.{AwaitsPage, StoresWord, StoresLength, GivesBack, HasHanded}
use Rattle.bus_tenure.specs.Situations.{core_elected, core_at_rest, answer_sent, answer_of_return}
use Rattle.bus_tenure.specs.declared.pages.Page.{Page}
use Rattle.bus_tenure.specs.declared.phases.Reason.{Reason}
use Rattle.bus_tenure.specs.declared.phases.Reason.TheVariants.{Sent, FoundEnd, NoRoom}
use Rattle.bus_tenure.specs.declared.turns.Turn.{Turn}
use Rattle.bus_tenure.specs.declared.turns.Turn.TheVariants as turn
use Rattle.bus_world.specs.Turning.{core_with_page, after_step}
use Rattle.bus_pageslot.specs.Seats.{SenderSeat}
use Rattle.bus_pageslot.specs.Sendings.{waiting_of, KeptAfter}
use Rattle.bus_pageslot.specs.Turns.{Tellings, Turned, TurnsOn, Here, More, Sends}
use Rattle.bus_pageslot.proofs.Ruled.Processes.{queue_same}

-- ---- what one step leaves of a batch
-- the same messages, and a close that waits or none as before
abbrev pub Stays : Pending → Pending → Type 0
Stays q q' = (q'.messages ≡ q.messages) × (is_closing q'.phase ≡ is_closing q.phase)

-- they stay where the answer is none of the last, and after Full; and after a refusal the messages
-- wait still, or its end mark was sent
abbrev IsLeft : Pending → Turn → Pending → Type 0
IsLeft q a q' =
    (is_last a ≡ false → Stays q q')
    × (a ≡ turn.Full → Stays q q')
    × (is_refusal a ≡ true
    → (q'.messages ≡ q.messages) ⊎ ((a ≡ turn.Closed) × (is_closing q.phase ≡ true)))

stays_left : (q : Pending) (a : Turn) (q' : Pending) → Stays q q' → IsLeft q a q'
stays_left q a q' h = (λ going. h, λ full. h, λ refused. inl h.0)

abbrev is_full : Turn → Bool
is_full turn.Full = true
is_full a = false

module _ {E : Type 0} (X : Election E) (v : Sender E) where
  abbrev Same : Core E → Type 0
  Same c = Stays v.core.queue c.queue

  same_if : (b : Bool) (c d : Core E) → Same c → Same d → Same (cond b c d)
  same_if true c d h k = h
  same_if false c d h k = k

  same_seen : (r : Option Reuse) (got : ℕ) → Same (seen X v.core r got).core
  same_seen None got = grind (arith, common_steps, same_if, nat_le)
  same_seen (Some r) got = grind (arith, common_steps, same_if, nat_le)

  same_elected : (t : ℕ) (e : E) (o : Option ℕ) → Same (core_elected v.core t e o)
  same_elected t e None = (refl, refl)
  same_elected t e (Some o) = grind (arith, common_steps, same_if)

  same_with_page : (c : Core E) → Same c → (t : ℕ) (home : Option Page)
      → Same (core_with_page c t home)
  same_with_page c h t None = h
  same_with_page c h t (Some page) = h

  -- the page is given back with its frame in the log, and the batch goes with it
  sent : (t : ℕ) (ph : BatchPhase) → v.core.queue.phase ≡ ph
      → IsLeft v.core.queue (answer_sent v.core.queue t ph) (core_at_rest v.core Sent t).queue
  sent t Open e = grind (arith, common_steps, true≢false)
  sent t (Marking mark.End) e = grind (arith, common_steps, true≢false)
  sent t (Marking mark.Leave) e = grind (arith, common_steps, true≢false)
  sent t Closed e = grind (arith, common_steps, true≢false)

  given : (t : ℕ) (reason : Reason)
      → IsLeft v.core.queue (answer_of_return v.core.queue t reason)
      (core_at_rest v.core reason t).queue
  given t Sent = sent t v.core.queue.phase refl
  given t FoundEnd = grind (arith, common_steps, true≢false)
  given t NoRoom = (λ going. (refl, refl), λ full. (refl, refl), λ refused. inl refl)

  abbrev After : Situation E → Option Page → ℕ → ℕ → Type 0
  After s home got word =
      IsLeft v.core.queue ((line X v s).answer got word)
      (moved (after_step (line X v s).move) home ((line X v s).fed got word)).core.queue

  stays : (s : Situation E) (home : Option Page) (got word : ℕ)
      → Same (moved (after_step (line X v s).move) home ((line X v s).fed got word)).core
      → After s home got word
  stays s home got word h = grind (arith, common_steps, stays_left)

  left_by : (s : Situation E) (home : Option Page) (got word : ℕ) → After s home got word
  left_by (Does IsClosed) home got word = stays (Does IsClosed) home got word (refl, refl)
  left_by (Does IsIdle) home got word = stays (Does IsIdle) home got word (refl, refl)
  left_by (Does IsSpent) home got word = stays (Does IsSpent) home got word (refl, refl)
  left_by (Does LooksAtStage) home got word =
      stays (Does LooksAtStage) home got word (same_seen v.reuse got)
  left_by (Does (Elects t e)) home got word = stays (Does (Elects t e)) home got word
      (same_elected t (X.fed e got word) (X.owner (X.fed e got word)))
  left_by (Does (TakesPage t)) home got word = grind (arith, common_steps, stays, same_with_page)
  left_by (Does (AwaitsPage t)) home got word =
      stays (Does (AwaitsPage t)) home got word (same_with_page v.core (refl, refl) t home)
  left_by (Does (StoresWord t page stored)) home got word =
      stays (Does (StoresWord t page stored)) home got word (refl, refl)
  left_by (Does (StoresLength t page stored)) home got word =
      stays (Does (StoresLength t page stored)) home got word (refl, refl)
  left_by (Does (GivesBack t page reason)) home got word = given t reason
  left_by (Does (HasHanded t reason)) home got word = given t reason
  left_by (Announces t) home got word = stays (Announces t) home got word (refl, refl)
  left_by (Validates t) home got word = grind (arith, common_steps, stays, same_if)
  left_by (Unpins t) home got word = stays (Unpins t) home got word (refl, refl)
  left_by (Withdraws t) home got word = stays (Withdraws t) home got word (refl, refl)
  left_by (Scans s) home got word = stays (Scans s) home got word (refl, refl)
  left_by (Clears s) home got word = stays (Clears s) home got word (refl, refl)
  left_by (ReadsPassed t p) home got word = grind (arith, common_steps, stays, same_if)

-- ---- a process whose steps leave this of its batch
abbrev pub LeavesBatch : {C : Type 0} → Process C → Type 0
LeavesBatch {C} P =
    (c : C) (home : Option Page) (got word : ℕ)
    → IsLeft (P.queue c) (P.answer c got word) (P.queue (P.after c home got word))

left_as : (q k q' k' : Pending) (a : Turn) → q.messages ≡ k.messages
    → is_closing q.phase ≡ is_closing k.phase → q'.messages ≡ k'.messages
    → is_closing q'.phase ≡ is_closing k'.phase → IsLeft k a k' → IsLeft q a q'
left_as q k q' k' a m p m' p' h = grind (arith, common_steps)

pub leaves_batch : {S : Type 0} (kind_of : S → Option Kind) (op : S → ℕ → Option Op)
    (fed : S → ℕ → ℕ → S) (Q : Protocol S Bool Verdict)
    → LeavesBatch (process_with kind_of op fed Q)
unfolding process_with
leaves_batch kind_of op fed Q v home got word =
    let X = election_with kind_of op fed Q in
    let s = situation X v in
    let w = moved (after_step (line X v s).move) home ((line X v s).fed got word) in
    left_as (queue_of v.core.queue v.reuse) v.core.queue (queue_of w.core.queue w.reuse)
    w.core.queue ((line X v s).answer got word)
    (queue_same (λ q. q.messages) (λ q. refl) v.core.queue v.reuse)
    (queue_same (λ q. is_closing q.phase) (λ q. refl) v.core.queue v.reuse)
    (queue_same (λ q. q.messages) (λ q. refl) w.core.queue w.reuse)
    (queue_same (λ q. is_closing q.phase) (λ q. refl) w.core.queue w.reuse)
    (left_by X v s home got word)

-- ---- turns
module _ {C : Type 0} (P : Process C) (T : Tellings C) (L : LeavesBatch P) where
  abbrev Waits : SenderSeat C → SenderSeat C → Type 0
  Waits old new = Stays (P.queue old.core) (P.queue new.core)

  pub turned_left : (old : SenderSeat C) (word : ℕ) (a : Turn) (new : SenderSeat C)
      → Turned P T old word a new
      → IsLeft (P.queue old.core) a (P.queue new.core)
  turned_left old word a new h = grind (arith, common_steps, stays_left)

  turns_stay : (first new : SenderSeat C) → TurnsOn P T first new → Waits first new
  turns_stay first _ Here = (refl, refl)
  turns_stay first _ (More old word answer new before turned last) =
      let h = turns_stay first old before in
      let k = (turned_left old word answer new turned).0 last in
      (k.0 ∙ h.0, k.1 ∙ h.1)

  -- turns that go on keep the batch ..
  pub going_keeps : (first old : SenderSeat C) (word : ℕ) (a : Turn) (new : SenderSeat C)
      → TurnsOn P T first old → Turned P T old word a new
      → is_last a ≡ false → waiting_of P new ≡ waiting_of P first
  going_keeps first old word a new before turned last =
      ((turned_left old word a new turned).0 last).0 ∙ (turns_stay first old before).0

  -- .. and so does a refusal after them
  pub refused_keeps : (first : SenderSeat C) (a : Turn) (new : SenderSeat C) → Sends P T first a new
      → is_refusal a ≡ true → KeptAfter P first a new
  refused_keeps first a new h refused = grind (arith, common_steps, turns_stay, turned_left)
