-- What each sender of a machine goes by is so.
use Rattle.std.specs.Prelude.{◌≢◌, ◌⊎◌}
use Rattle.std.proofs.Common.{◌≡◌, inl, inr, ℕ, zero, suc, ◌+◌, ◌*◌, ◌/◌, ◌<◌, ◌≤◌, ◌==◌, nat_le}
use Rattle.std.proofs.Common.{Bool, true, false, cond, Option, Some, None, is_some, List, [], ◌∷◌}
use Rattle.std.proofs.Common.{◌++◌, length, map, slice_get, slice_index, slice_set, arith, refl}
use Rattle.std.proofs.Common.{sym, ◌∙◌, ap, subst}
use Rattle.std.proofs.lemmas.Bool.{cases_eq, cases_lt, true≢false}
use Rattle.std.proofs.lemmas.Bool.Decides.{eqb_tells}
use Rattle.std.proofs.lemmas.List.{append-nil, get_or-set_same, length-append, length-map}
use Rattle.std.proofs.lemmas.Option.{same_Some, slice_get_within}
use Rattle.std.proofs.lemmas.Grind.{common_steps}
use Rattle.bus_batch.specs.Batches.{next_of, frame_of, phase_sent, IsShut}
use Rattle.bus_batch.specs.Frames.{has_end, has_gone, order_of}
use Rattle.bus_batch.specs.declared.messages.Mark.{Mark}
use Rattle.bus_batch.specs.declared.messages.Mark.TheVariants as mark
use Rattle.bus_batch.specs.declared.messages.Item.{Item}
use Rattle.bus_batch.specs.declared.batches.Phase.{Phase as BatchPhase}
use Rattle.bus_batch.specs.declared.batches.Phase.TheVariants as batch
use Rattle.bus_core.proofs.Reusing.Tells.{Shows, gives_shows}
use Rattle.bus_core.proofs.Situated.{own_is}
use Rattle.bus_core.specs.Keeping.{queue_of}
use Rattle.bus_core.specs.Reusing.Turns.{queue_seen, tenure_begun_by}
use Rattle.bus_core.specs.Seen.{begun_by}
use Rattle.bus_core.specs.Senders.{Sender, Situation, Does, Announces, Validates, Unpins}
use Rattle.bus_core.specs.Senders.{Withdraws, Scans, Clears, ReadsPassed, situation}
use Rattle.bus_core.specs.Table.{Line, line, line_now, seen}
use Rattle.bus_core.specs.declared.reuses.Reuse.{Reuse}
use Rattle.bus_deliverylog.specs.Orders.{of_sender}
use Rattle.bus_presence.specs.declared.pins.Pin.{Pin}
use Rattle.bus_presence.specs.declared.pins.Pin.TheVariants.{Away, Announcing, Validating, Pinned}
use Rattle.bus_presence.specs.declared.pins.Pin.TheVariants.{Unpinning, Invalidated}
use Rattle.bus_register.specs.Protocol.{Protocol}
use Rattle.bus_register.specs.Private.TableLaws.{get_set_same, get_set_other, push_here}
use Rattle.bus_register.specs.Private.TableLaws.{some_or_none}
use Rattle.bus_register.specs.Tables.{of_some}
use Rattle.bus_register.specs.declared.kinds.Kind.{Kind}
use Rattle.bus_tenure.proofs.Situated.{tells}
use Rattle.bus_tenure.specs.Core.{Core, Election}
use Rattle.bus_tenure.specs.Seen.{tenure_of}
use Rattle.bus_tenure.specs.Situations.{IsClosed, IsIdle, IsSpent, LooksAtStage, Elects, TakesPage}
use Rattle.bus_tenure.specs.Situations.{AwaitsPage, StoresWord, StoresLength, GivesBack, HasHanded}
use Rattle.bus_tenure.specs.Situations.{core_begun, core_elected, core_floored, core_at_rest, waits}
use Rattle.bus_tenure.specs.declared.pages.Page.{Page}
use Rattle.bus_tenure.specs.declared.phases.Phase.{Phase}
use Rattle.bus_tenure.specs.declared.phases.Phase.TheVariants as phase
use Rattle.bus_tenure.specs.declared.phases.Reason.{Reason}
use Rattle.bus_tenure.specs.declared.phases.Reason.TheVariants.{Sent, FoundEnd, NoRoom}
use Rattle.bus_world.specs.Private.Sending.{Part, Fits, standing_of, stands_at}
use Rattle.bus_world.specs.Headline.{IsPrefix}
use Rattle.bus_world.specs.Headline.{Action, HasPut, HasMarked, Stepped, Asked, Elected, puts}
use Rattle.bus_world.specs.Log.{next_number, sent_count}
use Rattle.bus_world.specs.Waiting.{waiting_at}
use Rattle.bus_world.proofs.FrameOfBatch.{length-items}
use Rattle.bus_world.proofs.LogLaws.{next-append_owner}
use Rattle.bus_world.specs.Private.Tenures.Standing.{Holds}
use Rattle.bus_world.proofs.Places.{got_split}
use Rattle.bus_world.proofs.Stopping.{shown_there}
use Rattle.bus_world.specs.Trails.{step_action, put_actions, mark_actions, actions_with}
use Rattle.bus_world.specs.Turning.{after_step, core_with_page}
use Rattle.bus_tenure.specs.declared.turns.Turn.{Turn as Answered}
use Rattle.bus_world.specs.World.{Event, Put, Ask, Turn, Recv, Stop, Gone}
use Rattle.bus_world.specs.declared.events.Answer.{Answer}
use Rattle.bus_world.specs.declared.events.Answer.TheVariants as answer
use Rattle.bus_machine.proofs.Bases.AtNone.{event_reuse, forks_reuse, fork_rises}
use Rattle.bus_machine.proofs.Memory.EachSender.{actions_of_it, actions_of_other, added, added_is}
use Rattle.bus_machine.proofs.Frames.Ending.{published_ends, published_leaves, left_by, found_ends}
use Rattle.bus_machine.proofs.Frames.Ending.{ended_of, left_of, still_ended, still_left, past_more}
use Rattle.bus_machine.proofs.Tenures.Entering.{entry, entry_from}
use Rattle.bus_machine.proofs.Frames.Framed.{IsFramed, framed}
use Rattle.bus_machine.proofs.Frames.Joining.{grows}
use Rattle.bus_machine.proofs.Frames.Knowing.{order_same}
use Rattle.bus_machine.proofs.Bases.Leading.{Sits, sits_before, sits_after, sits_forked}
use Rattle.bus_machine.proofs.Bases.Leading.{sits_unforked}
use Rattle.bus_machine.proofs.Tenures.PinBounds.{PinFits, kept_of}
use Rattle.bus_machine.proofs.Onward.StageRises.{rises}
use Rattle.bus_machine.proofs.Frames.Staying.{grown_longer}
use Rattle.bus_machine.specs.Machine.{base_of, Machine, Trails, Reached, New as Start, Joins, Forks}
use Rattle.bus_machine.specs.Machine.{trails_joined, Then as Next, Happens, TakesTurn, IsNew}
use Rattle.bus_machine.specs.Machine.{trails_grown, turn_grown, turn_answer, found, has_stopped}
use Rattle.bus_machine.specs.Machine.{moved, put_in, mark_in, no_machine_trails, stage_of}
use Rattle.bus_machine.specs.Promise.{pin_of}
use Rattle.bus_machine.specs.Remembering.{HasEnded, HasLeftIt, LeavesNow, HasLost, IsPastFor}
use Rattle.bus_machine.specs.Remembering.{IsItself, Remembers}

-- ---- by the frames of the log
module _ {E : Type 0} (P : Protocol E (Unit {0}) ℕ) (m : Machine E) (T : Trails)
    (f : IsFramed P m T) (p : ℕ) (v : Sender E)
    (at : slice_get m.senders p ≡ Some v) where
  part : Part (base_of m) m.layout f.V f.frames p v.core
  part = f.sending.parts p v.core (f.core_of p v at)

  -- in a tenure its batch is on its way
  busy_in : (ph : Phase E) → Fits (base_of m) f.V f.frames v.core ph → (t : ℕ)
      → tenure_of ph ≡ Some t → v.core.queue.busy ≡ true
  busy_in phase.Resting fits t e = absurd cc
  busy_in (phase.Electing u k) fits t e = fits.0.busy
  busy_in (phase.Taken u) fits t e = absurd fits
  busy_in (phase.Holding u page stored false) fits t e = fits.0.busy
  busy_in (phase.Holding u page stored true) fits t e = fits.0.busy
  busy_in (phase.Giving u reason) fits t e = absurd fits

  -- and at rest it is not
  idle_at : (ph : Phase E) → Fits (base_of m) f.V f.frames v.core ph → ph ≡ phase.Resting
      → v.core.queue.busy ≡ false
  idle_at phase.Resting fits e = fits.0
  idle_at (phase.Electing u k) fits e = absurd cc
  idle_at (phase.Taken u) fits e = absurd cc
  idle_at (phase.Holding u page stored published) fits e = absurd cc
  idle_at (phase.Giving u reason) fits e = absurd cc

  -- a tenure that has opened
  opened_by : (t : ℕ) → t ≤ f.sending.tenures.ended → 2 * t ≤ stage_of m
  opened_by t low = grind (arith, common_steps)

  stands : (ph : Phase E) → v.core.phase ≡ ph
      → of_some standing_of (f.cores p) ≡ Some (stands_at ph)
  stands ph is = ap (of_some standing_of) (f.core_of p v at) ∙ ap (λ w. Some (stands_at w)) is

  holds_it : (u t : ℕ) → ◌≡◌ {A = Option ℕ} (Some u) (Some t)
      → of_some standing_of (f.cores p) ≡ Some (Holds u) → 2 * t ≤ stage_of m
  holds_it u t same holds =
      let is = same_Some u t same in
      let w = (f.sending.tenures.holding p u holds).1 in
      let stage = f.stage in omega arith

  -- one that it has begun
  pub begun_opened : (t : ℕ) → tenure_of v.core.phase ≡ Some t → 2 * t ≤ stage_of m
  begun_opened t e = by v.core.phase refl e where
    by : (ph : Phase E) → v.core.phase ≡ ph → tenure_of ph ≡ Some t → 2 * t ≤ stage_of m
    by phase.Resting is e = absurd cc
    by (phase.Electing u k) is e =
        let runs = stands (phase.Electing u k) is in
        let b = f.sending.tenures.electing p u k runs in
        opened_by t (subst (λ n. n ≤ f.sending.tenures.ended) (same_Some u t e)
        (f.sending.tenures.begun u p k b.2).0)
    by (phase.Taken u) is e = holds_it u t e (stands (phase.Taken u) is)
    by (phase.Holding u page stored published) is e =
        holds_it u t e (stands (phase.Holding u page stored published) is)
    by (phase.Giving u reason) is e = holds_it u t e (stands (phase.Giving u reason) is)

  -- its next number, by what is in the order and what waits
  abbrev its_next : ℕ
  its_next = next_number (base_of m) p f.frames

  abbrev its_count : ℕ
  its_count = sent_count p f.frames

  many_put : (ph : Phase E)
      → length
      (map (λ (i : Item). i.message) (of_sender p (order_of f.frames)) ++ waiting_at v.core ph)
      ≡ its_count + length (waiting_at v.core ph)
  many_put ph = grind (arith, common_steps, map, length-append, length, length-map)

  numbers_by : (ph : Phase E) → Fits (base_of m) f.V f.frames v.core ph
      → next_of v.core.queue ≡ its_next + length (waiting_at v.core ph)
  numbers_by phase.Resting fits = ap (λ n. n + length v.core.queue.messages)
      (fits.1.0 ∙ ap (λ z. next_number (base_of m) z f.frames) part.me)
  numbers_by (phase.Electing u k) fits = ap (λ n. n + length v.core.queue.messages)
      (fits.1.0 ∙ ap (λ z. next_number (base_of m) z f.frames) part.me)
  numbers_by (phase.Taken u) fits = absurd fits
  numbers_by (phase.Holding u page stored false) fits = ap (λ n. n + length v.core.queue.messages)
      (fits.1.goes_on.0 ∙ ap (λ z. next_number (base_of m) z f.frames) part.me)
  numbers_by (phase.Holding u page stored true) fits =
      let w = fits.1 in
      let b = frame_of v.core.queue u in
      let mine : v.core.me ≡ b.owner.0 = part.me ∙ sym part.sender in
      let all = ap (λ n. n + length v.core.queue.messages)
      (w.goes_on.0 ∙ ap (λ z. next_number (base_of m) z w.front) mine)
      ∙ ap (λ n. next_number (base_of m) b.owner.0 w.front + n)
      (sym (length-items v.core.queue u part.queue))
      ∙ sym (next-append_owner (base_of m) w.front b)
      ∙ ap (λ z. next_number (base_of m) z (w.front ++ b ∷ [])) part.sender
      ∙ ap (next_number (base_of m) p) (sym w.frames_are) in
      omega arith
  numbers_by (phase.Giving u reason) fits = absurd fits

  pub numbered : next_of v.core.queue ≡ base_of m p + length (puts (T.actions p))
  numbered = grind (arith, numbers_by, part, many_put, length)

  pub itself : IsItself m p v
  itself = record { me = part.me; layout = part.layout; marks = part.sender }

  -- whoever has left is closed, or is leaving with its page
  pub left_so : HasLeftIt m T.log p → (v.core.queue.phase ≡ batch.Closed) ⊎ LeavesNow v
  left_so left =
      let gone : has_gone v.core.me (order_of f.frames) ≡ true =
      ap (λ n. has_gone n (order_of f.frames)) part.me
      ∙ ap (has_gone p) (order_same P m T f left.order left.owners left.spelled) ∙ left.left in
      grind (arith, common_steps, left_by, part)

  pub busy_within : (t : ℕ) → tenure_of v.core.phase ≡ Some t → v.core.queue.busy ≡ true
  busy_within t e = busy_in v.core.phase part.fits t e

  pub idle_resting : v.core.phase ≡ phase.Resting → v.core.queue.busy ≡ false
  idle_resting e = idle_at v.core.phase part.fits e

  -- who has begun none rests
  unbegun_idle : tenure_of v.core.phase ≡ None → v.core.queue.busy ≡ false
  unbegun_idle e = grind (arith, common_steps, idle_resting)

  -- likewise as a put sees it
  busy_by : (pin : Pin) (t : ℕ) → tenure_begun_by v.core pin ≡ Some t
      → (queue_seen v.core.queue pin).busy ≡ true
  busy_by Away t e = busy_within t e
  busy_by (Announcing u) t e = refl
  busy_by (Validating u) t e = refl
  busy_by (Pinned u) t e = refl
  busy_by (Unpinning u) t e = refl
  busy_by (Invalidated u) t e = refl

  idle_by : (pin : Pin) → tenure_begun_by v.core pin ≡ None
      → (queue_seen v.core.queue pin).busy ≡ false
  idle_by Away e = unbegun_idle e
  idle_by (Announcing u) e = absurd cc
  idle_by (Validating u) e = absurd cc
  idle_by (Pinned u) e = absurd cc
  idle_by (Unpinning u) e = absurd cc
  idle_by (Invalidated u) e = absurd cc

  pub busy_seen : (r : Option Reuse) (t : ℕ) → begun_by v.core r ≡ Some t
      → (queue_of v.core.queue r).busy ≡ true
  busy_seen None t e = busy_within t e
  busy_seen (Some r) t e = busy_by r.pin t e

  pub idle_seen : (r : Option Reuse) → begun_by v.core r ≡ None
      → (queue_of v.core.queue r).busy ≡ false
  idle_seen None e = unbegun_idle e
  idle_seen (Some r) e = idle_by r.pin e

-- ---- by its pin
-- whoever is past a tenure, or in it, or pins it, saw it open
module _ {E : Type 0} (stage s : ℕ) (actions : List Action) (c : Core E)
    (in_it : (t : ℕ) → tenure_of c.phase ≡ Some t → 2 * t ≤ stage)
    (past : (t : ℕ) → t < c.least → IsPastFor stage s actions t) where
  past_opened : (t : ℕ) → IsPastFor stage s actions t → 2 * t ≤ stage
  past_opened t (inl ended) = omega arith
  past_opened t (inr lost) = lost.opened

  entry_opened : (t : ℕ) → t < entry c → 2 * t ≤ stage
  entry_opened t low = grind (arith, common_steps, entry_from, past_opened)

  pinned_opened : (u : Pin) (named : Option ℕ) → PinFits (entry c) u stage named → (t : ℕ)
      → tenure_begun_by c u ≡ Some t → 2 * t ≤ stage
  pinned_opened Away named k t e = in_it t e
  pinned_opened (Announcing u) named k t e = let same = same_Some u t e in omega arith
  pinned_opened (Validating u) named k t e =
      let same = same_Some u t e in let low = k.0 in omega arith
  pinned_opened (Invalidated u) named k t e =
      let same = same_Some u t e in let low = k.0 in omega arith
  pinned_opened (Pinned u) named k t e =
      let same = same_Some u t e in let low = k.0 in entry_opened t (omega arith)
  pinned_opened (Unpinning u) named k t e =
      let same = same_Some u t e in let low = k.0 in entry_opened t (omega arith)

  pub reused_opened : (r : Option Reuse) (named : Option ℕ)
      → PinFits (entry c) (pin_of r) stage named
      → (t : ℕ) → begun_by c r ≡ Some t → 2 * t ≤ stage
  reused_opened None named k t e = in_it t e
  reused_opened (Some r) named k t e = pinned_opened r.pin named k t e

-- ---- by what happened
pub record Recalls {E : Type 0} (m : Machine E) (log : List ℕ) (s : ℕ) (c : Core E)
    (actions : List Action) : Type 0 where
  closed : c.queue.phase ≡ batch.Closed → HasEnded m log ⊎ HasLeftIt m log s
  asked : (asked : Mark) → Asked asked actions → IsShut c.queue
  past : (t : ℕ) → t < c.least → IsPastFor (stage_of m) s actions t

abbrev pub AllRecall : {E : Type 0} → Machine E → Trails → Type 0
AllRecall {E} m T =
    (s : ℕ) (v : Sender E) → slice_get m.senders s ≡ Some v → Recalls m T.log s v.core (T.actions s)

-- a batch of this phase is shut
abbrev IsShutAt : BatchPhase → Type 0
IsShutAt q = ((m : Mark) × (q ≡ batch.Marking m)) ⊎ (q ≡ batch.Closed)

-- ---- actions that ask for no mark
abbrev AsksNone : List Action → Type 0
AsksNone ds = (asked : Mark) → Asked asked ds → ⊥

nothing_asks : AsksNone []
nothing_asks asked (place, at) = let bad = at in cc

one_asks : (d : Action) → ((asked : Mark) → d ≡ HasMarked asked → ⊥) → AsksNone (d ∷ [])
one_asks d other asked (zero, at) = other asked (same_Some _ _ at)
one_asks d other asked (suc place, at) = let bad = at in cc

put_asks : (bytes : List ℕ) (a : Answer) → AsksNone (put_actions bytes a)
put_asks bytes (answer.Number n) = one_asks (HasPut n bytes) (λ asked e. cc)
put_asks bytes answer.Closing = nothing_asks
put_asks bytes answer.Leaving = nothing_asks
put_asks bytes (answer.Turn t) = nothing_asks
put_asks bytes (answer.Recv t) = nothing_asks
put_asks bytes answer.Stopped = nothing_asks
put_asks bytes answer.Gone = nothing_asks

step_asks : (k : Option Kind) (tenure : Option ℕ) (got : ℕ) (chose : Option ℕ) (told : Answered)
    → AsksNone (step_action k tenure got chose told)
step_asks None tenure got chose told = nothing_asks
step_asks (Some k) tenure got chose told =
    one_asks (Stepped tenure k got chose told) (λ asked e. cc)

turn_asks : {E : Type 0} (z : Situation E) (l : Line E) (got word : ℕ) (told : Answered)
    → AsksNone (added z l got word told)
turn_asks (Does z) l got word told = step_asks l.kind l.tenure got (l.chosen got word) told
turn_asks (Announces t) l got word told = nothing_asks
turn_asks (Validates t) l got word told = nothing_asks
turn_asks (Unpins t) l got word told = nothing_asks
turn_asks (Withdraws t) l got word told = nothing_asks
turn_asks (Scans r) l got word told = nothing_asks
turn_asks (Clears r) l got word told = nothing_asks
turn_asks (ReadsPassed t p) l got word told =
    step_asks l.kind l.tenure got (l.chosen got word) told

-- what was asked for with more actions that ask for none was asked for before
asked_before : (xs ds : List Action) → AsksNone ds → (asked : Mark) → Asked asked (xs ++ ds)
    → Asked asked xs
asked_before xs ds none asked (place, at) = elim (got_split xs ds place _ at) [
  | inl before ↦ (place, before)
  | inr after ↦ absurd (none asked (after.0, after.2))
]

-- an event of a machine that was led to
module _ {E : Type 0} (X : Election E) (P : Protocol E (Unit {0}) ℕ) (m m' : Machine E) (T : Trails)
    (e : Event) (a : Answer) (sits : Sits X P m)
    (r : Reached X m T) (h : Happens X m e a m') (k : AllRecall m T) where
  abbrev T' : Trails
  T' = trails_grown X m e a T

  f' : IsFramed P m' T'
  f' = framed X P m' T' (sits_after X P m m' e a h sits) (Next m m' T e a r h)

  closed_on : (s : ℕ) → HasEnded m T.log ⊎ HasLeftIt m T.log s
      → HasEnded m' T'.log ⊎ HasLeftIt m' T'.log s
  closed_on s (inl ended) = inl
      (still_ended P m m' T T' (event_reuse X m m' e a h).0 f' (grows X m m' e a T h) ended)
  closed_on s (inr left) = inr
      (still_left P m m' T T' s (event_reuse X m m' e a h).0 f' (grows X m m' e a T h) left)

  past_on : (s t : ℕ) → IsPastFor (stage_of m) s (T.actions s) t
      → IsPastFor (stage_of m') s (T'.actions s) t
  past_on s t w = past_more (stage_of m) (stage_of m') s (T.actions s) (T'.actions s) t
      (rises X P m m' T e a sits r h)
      ((grown_longer X m T e a).actions s) w

  -- who is as before, but for its messages, its phase and whether its batch is on its way
  alike : (s : ℕ) (c c' : Core E) → Recalls m T.log s c (T.actions s)
      → (c'.queue.phase ≡ batch.Closed → c.queue.phase ≡ batch.Closed)
      → ((asked : Mark) → Asked asked (T'.actions s) → IsShut c'.queue) → c'.least ≡ c.least
      → Recalls m' T'.log s c' (T'.actions s)
  alike s c c' w shut asks same = grind (arith, closed_on, past_on)

  -- one sender is another, and has done this
  one_other : (s : ℕ) (v v' : Sender E) (ds : List Action) → slice_get m.senders s ≡ Some v
      → m'.senders ≡ slice_set m.senders s v'
      → T'.actions ≡ actions_with s ds T.actions → Recalls m' T'.log s v'.core (T'.actions s)
      → AllRecall m' T'
  one_other s v v' ds at senders did now q w here = elim (cases_eq q s) [
    | inl same ↦
        let set = slice_set m.senders s v' in
        let is : v' ≡ w =
        same_Some _ _ (sym (get_set_same m.senders s v' (slice_get_within m.senders s v at))
        ∙ ap (slice_get set) (sym same) ∙ ap (λ l. slice_get l q) (sym senders) ∙ here) in
        subst (λ n. Recalls m' T'.log n w.core (T'.actions n)) (sym same)
        (subst (λ (y : Sender E). Recalls m' T'.log s y.core (T'.actions s)) is now)
    | inr other ↦
        let before = k q w (sym (get_set_other m.senders s v' q other)
        ∙ ap (λ l. slice_get l q) (sym senders) ∙ here) in
        let same : T'.actions q ≡ T.actions q =
        ap (λ (D : ℕ → List Action). D q) did ∙ actions_of_other s ds T.actions q other in
        alike q w.core w.core before (λ i. i)
        (λ asked j. before.asked asked (subst (Asked asked) same j)) refl
  ]

  -- all are as before, and nobody has done anything
  none_other : m'.senders ≡ m.senders → T'.actions ≡ T.actions → AllRecall m' T'
  none_other senders did q w here =
      let before = k q w (ap (λ l. slice_get l q) (sym senders) ∙ here) in
      alike q w.core w.core before (λ i. i)
      (λ asked j.
      before.asked asked (subst (Asked asked) (ap (λ (D : ℕ → List Action). D q) did) j)) refl

-- a fork: no sender is another
module _ {E : Type 0} (X : Election E) (P : Protocol E (Unit {0}) ℕ) (m m' : Machine E) (T : Trails)
    (i j n : ℕ) (sits : Sits X P m) (r : Reached X m T) (h : Forks m i j true m')
    (nobody : slice_get m.receivers n ≡ None) (silent : T.heard n ≡ []) (k : AllRecall m T) where
  abbrev U' : Trails
  U' = trails_joined i j n T

  g' : IsFramed P m' U'
  g' = framed X P m' U' (sits_forked X P m m' i j h sits)
      (Joins m m' T i j n r h nobody silent)

  same_log : IsPrefix T.log U'.log
  same_log = record { rest = []; together = append-nil T.log }

  closed_too : (s : ℕ) → HasEnded m T.log ⊎ HasLeftIt m T.log s
      → HasEnded m' U'.log ⊎ HasLeftIt m' U'.log s
  closed_too s (inl ended) = grind (arith, common_steps, still_ended, forks_reuse, g', same_log)
  closed_too s (inr left) = grind (arith, common_steps, still_left, forks_reuse, g', same_log)

  fork_recalls : AllRecall m' U'
  fork_recalls q w here =
      let old = k q w (ap (λ l. slice_get l q) (sym (ap (λ (y : Machine E). y.senders) h.after))
      ∙ here) in record {
        closed = λ shut. closed_too q (old.closed shut);
        asked = old.asked;
        past = λ t low. grind (arith, common_steps, past_more, fork_rises, append-nil);
      }

-- a turn
module _ {E : Type 0} (X : Election E) (P : Protocol E (Unit {0}) ℕ) (m m' : Machine E) (T : Trails)
    (s word : ℕ) (a : Answer) (sits : Sits X P m)
    (r : Reached X m T) (h : TakesTurn X m s word a m') (k : AllRecall m T) where
  abbrev v : Sender E
  v = h.sender

  abbrev U : Trails
  U = trails_grown X m (Turn s word) a T

  at : slice_get m.senders s ≡ Some v
  at = shown_there (has_stopped m s) (slice_get m.senders s) v h.goes

  f : IsFramed P m T
  f = framed X P m T sits r

  its : Part (base_of m) m.layout f.V f.frames s v.core
  its = f.sending.parts s v.core (f.core_of s v at)

  w : Recalls m T.log s v.core (T.actions s)
  w = k s v at

  abbrev Good : Core E → Type 0
  Good c = Recalls m' U.log s c (U.actions s)

  low : stage_of m ≤ stage_of m'
  low = rises X P m m' T (Turn s word) a sits r h

  abbrev got : Situation E → ℕ
  got z = found m (line X v z) word

  -- what it has done
  abbrev did : Situation E → List Action
  did z = added z (line X v z) (got z) word (turn_answer m (line X v z) word)

  pub done : (z : Situation E) → situation X v ≡ z → U.actions s ≡ T.actions s ++ did z
  done z i = grind (arith, common_steps, added_is, actions_of_it)

  -- it has asked for no mark with it
  asked_old : (asked : Mark) → Asked asked (U.actions s) → Asked asked (T.actions s)
  asked_old asked j =
      let z = situation X v in
      asked_before (T.actions s) (did z)
      (turn_asks z (line X v z) (got z) word (turn_answer m (line X v z) word)) asked
      (subst (Asked asked) (done z refl) j)

  good : (c : Core E) → (c.queue.phase ≡ batch.Closed → v.core.queue.phase ≡ batch.Closed)
      → c.queue.phase ≡ v.core.queue.phase
      → c.least ≡ v.core.least → Good c
  good c shut phase_is same = alike X P m m' T (Turn s word) a sits r h k s v.core c w shut
      (λ asked j. subst IsShutAt (sym phase_is) (w.asked asked (asked_old asked j))) same

  -- the page is laid before it, or not
  laid : (t : ℕ) (home : Option Page) (c : Core E) → Good c → Good (core_with_page c t home)
  laid t None c g = record { closed = g.closed; asked = g.asked; past = g.past }
  laid t (Some page) c g = record { closed = g.closed; asked = g.asked; past = g.past }

  -- a first look at the stage
  looked_apart : (b d : Bool) → nat_le v.core.layout.rows (stage_of m / 2) ≡ d
      → Good (cond b v.core
      (cond d (record v.core { least = stage_of m / 2 }) (core_begun X v.core (stage_of m / 2))))
  looked_apart true d i = good v.core (λ j. j) refl refl
  looked_apart false true i = record {
    closed = λ j. closed_on X P m m' T (Turn s word) a sits r h k s (w.closed j);
    asked = λ asked j. w.asked asked (asked_old asked j);
    past = λ t small. (let more = low in inl (omega arith));
  }
  looked_apart false false i = good (core_begun X v.core (stage_of m / 2)) (λ j. j) refl refl

  looked_again : (b d : Bool) → nat_le v.core.layout.rows (stage_of m / 2) ≡ d
      → Good (cond b v.core (cond d (record v.core { least = stage_of m / 2 }) v.core))
  looked_again true d i = good v.core (λ j. j) refl refl
  looked_again false true i = record {
    closed = λ j. closed_on X P m m' T (Turn s word) a sits r h k s (w.closed j);
    asked = λ asked j. w.asked asked (asked_old asked j);
    past = λ t small. (let more = low in inl (omega arith));
  }
  looked_again false false i = good v.core (λ j. j) refl refl

  looks : (o : Option Reuse) → Good (seen X v.core o (stage_of m)).core
  looks None =
      looked_apart (waits v.core (stage_of m)) (nat_le v.core.layout.rows (stage_of m / 2)) refl
  looks (Some q) =
      looked_again (waits v.core (stage_of m)) (nat_le v.core.layout.rows (stage_of m / 2)) refl

  -- the second look
  validated : (t : ℕ) (b : Bool) → Good (cond b (core_begun X v.core t) v.core)
  validated t true = good (core_begun X v.core t) (λ j. j) refl refl
  validated t false = good v.core (λ j. j) refl refl

  -- ---- a step of its election
  module _ (t : ℕ) (e : E) (i : situation X v ≡ Does (Elects t e)) where
    runs : (v.core.phase ≡ phase.Electing t e) × (is_some (X.owner e) ≡ false)
    runs = tells X v.core (Elects t e) (own_is X v (Elects t e) i)

    -- it has a kind
    pub has_kind : (q : Kind) × (X.kind_of e ≡ Some q)
    has_kind = grind (arith, common_steps, some_or_none, true≢false, is_some, runs)

    abbrev e' : E
    e' = X.fed e (got (Does (Elects t e))) word

    -- with it it saw the election end
    pub saw : (o : ℕ) → X.owner e' ≡ Some o → Elected (U.actions s) t o
    saw o owned =
        let q = has_kind in
        let told = turn_answer m (line X v (Does (Elects t e))) word in
        let n = got (Does (Elects t e)) in
        let d = Stepped (Some t) q.0 n (Some o) told in
        let added_now : U.actions s ≡ T.actions s ++ d ∷ [] = done (Does (Elects t e)) i
        ∙ ap (λ y. T.actions s ++ step_action y (Some t) n (X.owner e') told) q.1
        ∙ ap (λ y. T.actions s ++ Stepped (Some t) q.0 n y told ∷ []) owned in
        record {
          place = length (T.actions s);
          step = q.0;
          found = n;
          answer = told;
          at = grind (arith, common_steps, slice_get, length, push_here);
        }

    -- it has lost this tenure, and all before have ended
    lost : (o : ℕ) → X.owner e' ≡ Some o → o ≢ v.core.me → (u : ℕ) → u < t + 1
        → IsPastFor (stage_of m') s (U.actions s) u
    lost o owned other u small =
        let opened = begun_opened P m T f s v at t (ap tenure_of runs.0) in
        let more = low in
        elim (cases_lt u t) [
          | inl before ↦ inl (omega arith)
          | inr last ↦
              let same : t ≡ u = omega arith in
              inr (subst (HasLost (stage_of m') s (U.actions s)) same
              record {
                opened = omega arith;
                owner = o;
                elected = saw o owned;
                other = λ it. other (it ∙ sym its.me);
              })
        ]

    decides : (o : ℕ) → X.owner e' ≡ Some o → (b : Bool) → (o == v.core.me) ≡ b
        → Good (cond b (record v.core { phase = phase.Electing t e' }) (record v.core {
          queue = record v.core.queue { busy = false };
          least = t + 1;
          phase = phase.Resting;
        }))
    decides o owned true i = good (record v.core { phase = phase.Electing t e' }) (λ j. j) refl refl
    decides o owned false i = record {
      closed = λ j. closed_on X P m m' T (Turn s word) a sits r h k s (w.closed j);
      asked = λ asked j. w.asked asked (asked_old asked j);
      past = lost o owned (λ same. elim (eqb_tells o v.core.me) [
        | inl y ↦ true≢false (sym y.0 ∙ i)
        | inr n ↦ n.1 same
      ]);
    }

    elects : (own : Option ℕ) → X.owner e' ≡ own → Good (core_elected v.core t e' own)
    elects None owned = good (record v.core { phase = phase.Electing t e' }) (λ j. j) refl refl
    elects (Some o) owned = decides o owned (o == v.core.me) refl

  -- ---- the page goes back
  -- the stage is that of the next tenure
  stage_given : (t : ℕ) (page : Page) (reason : Reason)
      → situation X v ≡ Does (GivesBack t page reason) → stage_of m' ≡ 2 * t + 2
  stage_given t page reason i =
      grind (arith, common_steps, length, slice_set, slice_index, get_or-set_same)

  -- its batch is closed for its mark, or for an end mark that it found
  shut_sent : (q : BatchPhase) → v.core.queue.phase ≡ q
      → (q ≡ batch.Marking mark.End → has_end f.frames ≡ true)
      → (q ≡ batch.Marking mark.Leave → has_gone s (order_of f.frames) ≡ true)
      → phase_sent q ≡ batch.Closed → HasEnded m T.log ⊎ HasLeftIt m T.log s
  shut_sent batch.Open is ends leaves j = absurd cc
  shut_sent (batch.Marking mark.End) is ends leaves j = inl (ended_of P m T f (ends refl))
  shut_sent (batch.Marking mark.Leave) is ends leaves j = inr (left_of P m T f s (leaves refl))
  shut_sent batch.Closed is ends leaves j = w.closed is

  shut : (t : ℕ) (reason : Reason) → Shows v.core t v.core.phase reason
      → (core_at_rest v.core reason t).queue.phase ≡ batch.Closed
      → HasEnded m T.log ⊎ HasLeftIt m T.log s
  shut t Sent y j = shut_sent v.core.queue.phase refl
      (λ closing. published_ends (base_of m) f.V f.frames v.core t v.core.phase y closing its.fits)
      (λ leaving. subst (λ q. has_gone q (order_of f.frames) ≡ true) its.sender
      (published_leaves (base_of m) f.V f.frames v.core t v.core.phase y leaving its.fits)) j
  shut t FoundEnd y j =
      inl (ended_of P m T f (found_ends (base_of m) f.V f.frames v.core t v.core.phase y its.fits))
  shut t NoRoom y j = w.closed j

  -- a batch that is shut stays so
  shut_after : (q : BatchPhase) → IsShutAt q → IsShutAt (phase_sent q)
  shut_after batch.Open (inl marking) = absurd (let bad = marking.1 in cc)
  shut_after batch.Open (inr closed) = absurd (let bad : batch.Open ≡ batch.Closed = closed in cc)
  shut_after (batch.Marking asked) j = inr refl
  shut_after batch.Closed j = inr refl

  stays_shut : (t : ℕ) (reason : Reason) → IsShut v.core.queue
      → IsShut (core_at_rest v.core reason t).queue
  stays_shut t Sent j = shut_after v.core.queue.phase j
  stays_shut t FoundEnd j = inr refl
  stays_shut t NoRoom j = j

  gives : (t : ℕ) (page : Page) (reason : Reason) → situation X v ≡ Does (GivesBack t page reason)
      → Good (core_at_rest v.core reason t)
  gives t page reason i =
      let own = own_is X v (GivesBack t page reason) i in
      let stage = stage_given t page reason i in
      record {
        closed = λ j. closed_on X P m m' T (Turn s word) a sits r h k s
            (shut t reason (gives_shows X v.core t page reason own) j);
        asked = λ asked j. stays_shut t reason (w.asked asked (asked_old asked j));
        past = λ u small. inl (omega arith);
      }

  -- its page gets its floor, or not
  floored : (least : ℕ) (b : Bool) → Good (cond b (core_floored v.core least) v.core)
  floored least true = good (core_floored v.core least) (λ j. j) refl refl
  floored least false = good v.core (λ j. j) refl refl

  -- ---- whatever the turn is
  by_turn : (z : Situation E) → situation X v ≡ z
      → Good (moved (after_step (line X v z).move) m.home ((line X v z).fed (got z) word)).core
  by_turn (Does IsClosed) i = good v.core (λ j. j) refl refl
  by_turn (Does IsIdle) i = good v.core (λ j. j) refl refl
  by_turn (Does IsSpent) i = good v.core (λ j. j) refl refl
  by_turn (Does LooksAtStage) i = looks v.reuse
  by_turn (Does (Elects t e)) i =
      elects t e i (X.owner (X.fed e (got (Does (Elects t e))) word)) refl
  by_turn (Does (TakesPage t)) i = laid t m.home (record v.core { phase = phase.Taken t })
      (good (record v.core { phase = phase.Taken t }) (λ j. j) refl refl)
  by_turn (Does (AwaitsPage t)) i = laid t m.home v.core (good v.core (λ j. j) refl refl)
  by_turn (Does (StoresWord t page stored)) i =
      good (record v.core { phase = phase.Holding t page (stored + 1) false }) (λ j. j) refl refl
  by_turn (Does (StoresLength t page stored)) i =
      good (record v.core { phase = phase.Holding t page stored true }) (λ j. j) refl refl
  by_turn (Does (GivesBack t page reason)) i = gives t page reason i
  by_turn (Does (HasHanded t reason)) i = absurd (subst (Fits (base_of m) f.V f.frames v.core)
      (tells X v.core (HasHanded t reason) (own_is X v (HasHanded t reason) i)) its.fits)
  by_turn (Announces t) i = good v.core (λ j. j) refl refl
  by_turn (Validates t) i = validated t (got (Validates t) / 2 == t)
  by_turn (Unpins t) i = good v.core (λ j. j) refl refl
  by_turn (Withdraws t) i = good v.core (λ j. j) refl refl
  by_turn (Scans q) i = good v.core (λ j. j) refl refl
  by_turn (Clears q) i = good v.core (λ j. j) refl refl
  by_turn (ReadsPassed t p) i = grind (arith, common_steps, floored)

  turn_recalls : AllRecall m' U
  turn_recalls =
      let l = line_now X v in
      one_other X P m m' T (Turn s word) a sits r h k s v
      (moved (after_step l.move) m.home (l.fed (found m l word) word)) (did (situation X v)) at
      (ap (λ (y : Machine E). y.senders) h.after)
      (ap (λ o. (trails_grown X m (Turn s word) o T).actions) h.answered
      ∙ ap (λ o. (turn_grown X m s o word (answer.Turn (turn_answer m l word)) T).actions) h.goes
      ∙ added_is (situation X v) l s (got (situation X v)) word (turn_answer m l word) T)
      (by_turn (situation X v) refl)

-- ---- whatever leads to a machine
module _ {E : Type 0} (X : Election E) (P : Protocol E (Unit {0}) ℕ) where
  event_recalls : (m m' : Machine E) (T : Trails) (e : Event) (a : Answer) → Sits X P m
      → Reached X m T → Happens X m e a m' → AllRecall m T
      → AllRecall m' (trails_grown X m e a T)
  event_recalls m m' T (Put s bytes) a sits r h k =
      let at = shown_there (has_stopped m s) (slice_get m.senders s) h.sender h.goes in
      let before = k s h.sender at in
      let now = actions_of_it s (put_actions bytes a) T.actions s refl in
      one_other X P m m' T (Put s bytes) a sits r h k s h.sender (put_in h.sender bytes)
      (put_actions bytes a) at
      (ap (λ (y : Machine E). y.senders) h.after) refl
      (alike X P m m' T (Put s bytes) a sits r h k s h.sender.core (put_in h.sender bytes).core
      before (λ j. j)
      (λ asked j. before.asked asked
      (asked_before (T.actions s) (put_actions bytes a) (put_asks bytes a) asked
      (subst (Asked asked) now j))) refl)
  event_recalls m m' T (Ask s asked) a sits r h k =
      let at = shown_there (has_stopped m s) (slice_get m.senders s) h.sender h.goes in
      one_other X P m m' T (Ask s asked) a sits r h k s h.sender (mark_in h.sender asked)
      (mark_actions a) at
      (ap (λ (y : Machine E). y.senders) h.after) refl
      (alike X P m m' T (Ask s asked) a sits r h k s h.sender.core (mark_in h.sender asked).core
      (k s h.sender at)
      (λ j. absurd (let bad : batch.Marking asked ≡ batch.Closed = j in cc))
      (λ other j. inl (asked, refl)) refl)
  event_recalls m m' T (Turn s word) a sits r h k = turn_recalls X P m m' T s word a sits r h k
  event_recalls m m' T (Recv q) a sits r h k =
      none_other X P m m' T (Recv q) a sits r h k (ap (λ (y : Machine E). y.senders) h.after) refl
  event_recalls m m' T (Stop s) a sits r h k =
      none_other X P m m' T (Stop s) a sits r h k (ap (λ (y : Machine E). y.senders) h.after) refl
  event_recalls m m' T (Gone q) a sits r h k =
      none_other X P m m' T (Gone q) a sits r h k (ap (λ (y : Machine E). y.senders) h.after) refl

  new_recalls : (m : Machine E) → IsNew m → AllRecall m no_machine_trails
  new_recalls m new s v at = grind (arith, common_steps, nothing_asks)

  pub all_recall : (m : Machine E) (T : Trails) → Sits X P m → Reached X m T → AllRecall m T
  all_recall m T sits (Start n new) = new_recalls n new
  all_recall m T sits (Next n m' U e a before h) =
      let t = sits_before X P n m' e a h sits in
      event_recalls n m' U e a t before h (all_recall n U t before)
  all_recall m T sits (Joins w v U i j n before h nobody silent) =
      let t = sits_unforked X P w v i j h sits in
      fork_recalls X P w v U i j n t before h nobody silent (all_recall w U t before)

  pub remembered : (m : Machine E) (T : Trails) → Sits X P m → Reached X m T
      → (s : ℕ) (v : Sender E) → slice_get m.senders s ≡ Some v
      → Remembers m T.log s v (T.actions s)
  remembered m T sits r s v at =
      let f = framed X P m T sits r in
      let k = all_recall m T sits r s v at in
      record {
        is = itself P m T f s v at;
        rows = f.rows s v at;
        numbers = numbered P m T f s v at;
        closed = k.closed;
        gone = left_so P m T f s v at;
        asked = k.asked;
        past = k.past;
        begun = reused_opened (stage_of m) s (T.actions s) v.core (begun_opened P m T f s v at)
            k.past v.reuse _ (kept_of X P m T sits r s v at).fits;
        entered = begun_opened P m T f s v at;
        busy = busy_within P m T f s v at;
        idle = idle_resting P m T f s v at;
        seen_busy = busy_seen P m T f s v at v.reuse;
        seen_idle = idle_seen P m T f s v at v.reuse;
      }
