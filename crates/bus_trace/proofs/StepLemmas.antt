-- The step of an event: of which tenure it is, and what stands in its word afterwards.
use Rattle.std.proofs.Common.{◌≡◌, ℕ, ◌<◌, Bool, true, false, cond, Option, Some}
use Rattle.std.proofs.Common.{None, List, length, slice_get, slice_index, is_some, nat_lt, refl}
use Rattle.std.proofs.Common.{sym, ap, subst, ◌∙◌}
use Rattle.std.proofs.lemmas.List.{get_or-set_same}
use Rattle.std.proofs.lemmas.Option.{same_Some}
use Rattle.bus_register.specs.Protocol.{Protocol}
use Rattle.bus_register.specs.declared.kinds.Kind.{Kind}
use Rattle.bus_register.specs.declared.kinds.Kind.TheVariants as kind
use Rattle.bus_register.specs.declared.limits.TheConstants.{PASSED_ALL}
use Rattle.bus_register.specs.declared.registers.Op.{Op}
use Rattle.bus_register.specs.declared.registers.Op.TheVariants.{Cas}
use Rattle.bus_register.specs.declared.registers.Reg.{Reg}
use Rattle.bus_register.specs.Words.{register, after}
use Rattle.bus_adoptcommit.specs.declared.verdicts.Verdict.{Verdict}
use Rattle.bus_core.specs.Causes.{HasCause}
use Rattle.bus_core.specs.Seen.{begun_by}
use Rattle.bus_core.specs.Keeping.{sender}
use Rattle.bus_core.specs.Senders.{Sender, Does, Scans, Clears, reclaiming, at_home, pinning}
use Rattle.bus_core.specs.Senders.{participant_of}
use Rattle.bus_core.specs.Reusing.Passing.{passing_left}
use Rattle.bus_core.specs.declared.reuses.Passing.{Passing}
use Rattle.bus_core.specs.Table.{line, line_now}
use Rattle.bus_core.specs.declared.reuses.Reuse.{Reuse}
use Rattle.bus_deliverylog.specs.Receiving.{Receiving, due_kind, due_op, receiving_op, leaving_op}
use Rattle.bus_deliverylog.specs.Receiving.{leaving_by, joining_by}
use Rattle.bus_machine.specs.Machine.{Machine, Happens, Forks, IsOnWord, ShowsPassed}
use Rattle.bus_machine.specs.Machine.{has_stopped, passed_by}
use Rattle.bus_presence.specs.Reclaimers.{Reclaiming}
use Rattle.bus_presence.specs.declared.pins.Pin.{Pin}
use Rattle.bus_presence.specs.declared.pins.Pin.TheVariants.{Away, Announcing, Validating, Pinned}
use Rattle.bus_presence.specs.declared.pins.Pin.TheVariants.{Unpinning, Invalidated}
use Rattle.bus_tenure.specs.Core.{Core, Election, is_closed, has_room, frame_len}
use Rattle.bus_tenure.specs.Elections.{Elector}
use Rattle.bus_tenure.specs.Seen.{tenure_of}
use Rattle.bus_tenure.specs.Situations.{Situation as Own, IsClosed, IsIdle, IsSpent, LooksAtStage}
use Rattle.bus_tenure.specs.Situations.{Elects, TakesPage, AwaitsPage, StoresWord, StoresLength}
use Rattle.bus_tenure.specs.Situations.{GivesBack, HasHanded, situation_at, situation_of}
use Rattle.bus_tenure.specs.declared.pages.Page.{Page}
use Rattle.bus_tenure.specs.declared.phases.Phase.{Phase}
use Rattle.bus_tenure.specs.declared.phases.Phase.TheVariants as phase
use Rattle.bus_tenure.specs.declared.phases.Reason.{Reason}
use Rattle.bus_tenure.specs.declared.phases.Reason.TheVariants.{Sent, FoundEnd, NoRoom}
use Rattle.bus_core.specs.Causes.{LeavesTenure, AsLoser, AsHolder, AsLate, StandsInRow}
use Rattle.bus_core.specs.Reusing.Turns.{tenure_begun_by}
use Rattle.bus_world.specs.Turning.{words_after}
use Rattle.bus_world.specs.World.{Event, Put, Ask, Turn, Recv, Stop, Gone}
use Rattle.bus_world.specs.declared.events.Answer.{Answer}
use Rattle.bus_trace.specs.declared.seen.Step.{Step}
use Rattle.bus_trace.specs.Rows.{fork_op}
use Rattle.bus_trace.specs.Steps.{step_of, sender_due, receiver_due, leaver_due, due_by, seen_in}
use Rattle.bus_trace.specs.Steps.{word_in}
use Rattle.bus_trace.proofs.RowLemmas.{there}

-- ---- the tenure
module _ {E : Type 0} (X : Election E) (v : Sender E) where
  rests : (l : Option Passing) (s : Option Reclaiming) (a b d : Bool)
      → None
      ≡ (line X v
      (at_home l s (cond a IsClosed (cond b IsIdle (cond d IsSpent LooksAtStage))))).tenure
  rests l s true b d = refl
  rests l s false true d = refl
  rests l s false false true = refl
  rests l s false false false = refl

  elects : (l : Option Passing) (s : Option Reclaiming) (t : ℕ) (e : E) (a : Bool)
      → Some t ≡ (line X v (at_home l s (cond a (TakesPage t) (Elects t e)))).tenure
  elects l s t e true = refl
  elects l s t e false = refl

  module _ (t : ℕ) (held : tenure_of v.core.phase ≡ Some t) (page : Page) where
    reclaims : (s : Reclaiming) (reason : Reason) (a b : Bool)
        → Some t
        ≡ (line X v (cond a (Scans s) (cond b (Clears s) (Does (GivesBack t page reason))))).tenure
    reclaims s reason true b = sym held
    reclaims s reason false true = sym held
    reclaims s reason false false = refl

    unasked : (s : Option Reclaiming) (reason : Reason)
        → Some t ≡ (line X v (reclaiming s (GivesBack t page reason))).tenure
    unasked None reason = refl
    unasked (Some s) reason =
        reclaims s reason (nat_lt s.scanned s.senders) (nat_lt s.cleared s.width)

    gives : (l : Option Passing) (s : Option Reclaiming) (reason : Reason)
        → Some t ≡ (line X v (at_home l s (GivesBack t page reason))).tenure
    gives l s Sent = unasked s Sent
    gives l s FoundEnd = unasked s FoundEnd
    gives None s NoRoom = unasked s NoRoom
    gives (Some p) s NoRoom = refl

    holds : (l : Option Passing) (s : Option Reclaiming) (stored : ℕ) (a b d e : Bool)
        → Some t
        ≡ (line X v (at_home l s (cond a (GivesBack t page Sent) (cond b (GivesBack t page FoundEnd)
        (cond d (cond e (StoresWord t page stored) (StoresLength t page stored))
        (GivesBack t page NoRoom)))))).tenure
    holds l s stored true b d e = gives l s Sent
    holds l s stored false true d e = gives l s FoundEnd
    holds l s stored false false true true = refl
    holds l s stored false false true false = refl
    holds l s stored false false false e = gives l s NoRoom

  -- in its tenure, or before it
  own_tenure : (l : Option Passing) (s : Option Reclaiming) (ph : Phase E) → v.core.phase ≡ ph
      → tenure_of ph ≡ (line X v (at_home l s (situation_at X v.core ph))).tenure
  own_tenure l s phase.Resting is = rests l s (is_closed v.core.queue.phase) _ _
  own_tenure l s (phase.Electing t e) is = elects l s t e (is_some (X.owner e))
  own_tenure l s (phase.Taken t) is = refl
  own_tenure l s (phase.Holding t page stored published) is =
      holds t (ap tenure_of is) page l s stored published page.ended
      (has_room v.core page) (nat_lt stored (frame_len v.core))
  own_tenure l s (phase.Giving t reason) is = refl

at_none : {E : Type 0} (z : Own E) → at_home None None z ≡ Does z
at_none IsClosed = refl
at_none IsIdle = refl
at_none IsSpent = refl
at_none LooksAtStage = refl
at_none (Elects t e) = refl
at_none (TakesPage t) = refl
at_none (AwaitsPage t) = refl
at_none (StoresWord t page stored) = refl
at_none (StoresLength t page stored) = refl
at_none (GivesBack t page Sent) = refl
at_none (GivesBack t page FoundEnd) = refl
at_none (GivesBack t page NoRoom) = refl
at_none (HasHanded t reason) = refl

module _ {S : Type 0} (X : Election (Elector S)) (P : Protocol S Bool Verdict) where
  -- who pins a tenure and has a cause for a step stands in its election
  module _ (c : Core (Elector S)) (r : Reuse) (t : ℕ) (pinned : r.pin ≡ Pinned t) where
    away : r.pin ≡ Away → ⊥
    away e = absurd cc

    not_unpinning : (u : ℕ) → r.pin ≡ Unpinning u → ⊥
    not_unpinning u e = absurd cc

    not_invalidated : (u : ℕ) → r.pin ≡ Invalidated u → ⊥
    not_invalidated u e = absurd cc

    not_announcing : (u : ℕ) → r.pin ≡ Announcing u → ⊥
    not_announcing u e = absurd cc

    not_validating : (u : ℕ) → r.pin ≡ Validating u → ⊥
    not_validating u e = absurd cc

    leaves_not : LeavesTenure (participant_of c r) → ⊥
    leaves_not (AsLoser u owner pin lost resting) = not_unpinning u pin
    leaves_not (AsHolder u pin held) = not_unpinning u pin
    leaves_not (AsLate u pin rests) = not_invalidated u pin

    stands : StandsInRow (participant_of c r) → tenure_of c.phase ≡ Some t
    stands h = ap tenure_of h.elects ∙ ap (tenure_begun_by c) (sym h.pin ∙ pinned)

    pinned_in : (k : Kind) → HasCause P (sender c (Some r)) k → tenure_of c.phase ≡ Some t
    pinned_in kind.LoadStage h = absurd (away h.away)
    pinned_in kind.Enter h = absurd (not_announcing h.tenure h.pin)
    pinned_in kind.LoadStageAgain h = absurd (not_validating h.tenure h.pin)
    pinned_in kind.Announce h = stands h.0
    pinned_in kind.WriteFirst h = stands h.0
    pinned_in kind.ReadFirst h = stands h.0
    pinned_in kind.WriteSecond h = stands h.0
    pinned_in kind.ReadSecond h = stands h.0
    pinned_in kind.SetMark h = stands h.0
    pinned_in kind.ReadOtherMark h = stands h.0
    pinned_in kind.Vote h = stands h.0
    pinned_in kind.ReadVotes h = stands h.0
    pinned_in kind.Fallback h = stands h.0
    pinned_in kind.ReadAnnouncement h = stands h.0
    pinned_in kind.Withdraw h = absurd (leaves_not h)
    pinned_in kind.TakePage h = stands h.0
    pinned_in kind.StoreLogWord h = absurd (away h.0)
    pinned_in kind.StoreLength h = absurd (away h.0)
    pinned_in kind.ReadPresence h = absurd (away h.makes.away)
    pinned_in kind.ClearRow h = absurd (away h.makes.away)
    pinned_in kind.ReadPassed h = absurd (away h.away)
    pinned_in kind.GivePageBack h = absurd (away h.1.away)
    pinned_in kind.LoadLength h = absurd h
    pinned_in kind.LoadLogWord h = absurd h
    pinned_in kind.StorePassed h = absurd h

  tenure_by : (c : Core (Elector S)) (r : Reuse) (u : Pin) → r.pin ≡ u → (k : Kind)
      → HasCause P (sender c (Some r)) k
      → tenure_begun_by c u
      ≡ (line X (sender c (Some r))
      (pinning u (passing_left c.layout.passers r.passed) r.reclaimer (situation_of X c))).tenure
  tenure_by c r Away is k h =
      own_tenure X (sender c (Some r)) (passing_left c.layout.passers r.passed) r.reclaimer c.phase
      refl
  tenure_by c r (Announcing t) is k h = refl
  tenure_by c r (Validating t) is k h = refl
  tenure_by c r (Pinned t) is k h =
      sym (pinned_in c r t is k h)
      ∙ own_tenure X (sender c (Some r)) (passing_left c.layout.passers r.passed) r.reclaimer
      c.phase
      refl
  tenure_by c r (Unpinning t) is k h = refl
  tenure_by c r (Invalidated t) is k h = refl

  -- with a cause for a step, the tenure that is begun is that of the line
  pub tenure_is : (c : Core (Elector S)) (o : Option Reuse) (k : Kind) → HasCause P (sender c o) k
      → begun_by c o ≡ (line_now X (sender c o)).tenure
  tenure_is c None k h =
      own_tenure X (sender c None) None None c.phase refl
      ∙ ap (λ z. (line X (sender c None) z).tenure)
      (at_none (situation_of X c))
  tenure_is c (Some r) k h = tenure_by c r r.pin refl k h

  -- what code sees of the step that is due
  pub due_so : (senders : List (Sender (Elector S))) (s word : ℕ) (v : Sender (Elector S))
      (t : Option ℕ) (k : Kind) (o : Op)
      → Some v ≡ slice_get senders s → t ≡ begun_by v.core v.reuse → Some k ≡ (line_now X v).kind
      → HasCause P v k → Some o ≡ (line_now X v).op word
      → Some (record { tenure = t; kind = k; op = o }) ≡ sender_due X
      (slice_get senders s) word
  due_so senders s word v t k o at begun kind_is cause op_is =
      let l = line_now X v in
      ap (λ u. step_of u (Some k) (Some o)) (begun ∙ tenure_is v.core v.reuse k cause)
      ∙ ap (λ z. step_of l.tenure z (Some o)) kind_is
      ∙ ap (step_of l.tenure l.kind) op_is ∙ ap (λ z. sender_due X z word) at

-- ---- what stands in a word after the step on it
op_of_step : (tenure : Option ℕ) (k : Option Kind) (o : Option Op) (step : Step)
    → step_of tenure k o ≡ Some step → o ≡ Some step.op
op_of_step tenure None o step e = absurd cc
op_of_step tenure (Some k) None step e = absurd cc
op_of_step tenure (Some k) (Some o) step e = ap (λ (z : Step). Some z.op) (same_Some _ _ e)

pub stood : (words : List ℕ) (o : Op) → register o < length words
    → slice_index (words_after words (Some o)) (register o) ≡ after o
    (slice_index words (register o))
stood words o l = get_or-set_same words (register o) (after o (slice_index words (register o))) 0 l

-- of a receiver that has not left its step is due
pub due_stays : (v : Receiving) → v.gone ≡ false → due_op v ≡ receiving_op v
due_stays v stays = ap (λ b. cond {A = Option Op} b None (receiving_op v)) stays

pub leaves : {E : Type 0} (X : Election E) (m m' : Machine E) (e : Event) (a : Answer) (step : Step)
    → Happens X m e a m'
    → Some step ≡ due_by X m e
    → slice_index m'.words (register step.op)
    ≡ after step.op (slice_index m.words (register step.op))
leaves X m m' (Put s bytes) a step h is = absurd cc
leaves X m m' (Ask s mark) a step h is = absurd cc
leaves {E} X m m' (Turn s word) a step h is =
    let l = line_now X h.sender in
    let due =
    ap (λ o. sender_due X o word)
    (sym (there (has_stopped m s) (slice_get m.senders s) h.sender h.goes)) ∙ sym is in
    let op_is : l.op word ≡ Some step.op = op_of_step l.tenure l.kind (l.op word) step due in
    ap (λ (y : Machine E). slice_index y.words (register step.op)) h.after
    ∙ ap (λ o. slice_index (words_after m.words o) (register step.op)) op_is
    ∙ stood m.words step.op (subst (IsOnWord m) op_is h.within)
leaves {E} X m m' (Recv r) a step h is =
    let v = h.receiver in
    let op_is : receiving_op v ≡ Some step.op =
    sym (due_stays v h.stays)
    ∙ op_of_step None (due_kind v) (due_op v) step (ap receiver_due (sym h.there) ∙ sym is) in
    ap (λ (y : Machine E). slice_index y.words (register step.op)) h.after
    ∙ ap (λ o. slice_index (words_after m.words o) (register step.op)) op_is
    ∙ stood m.words step.op (subst (IsOnWord m) op_is h.within)
leaves X m m' (Stop s) a step h is = absurd cc
leaves {E} X m m' (Gone r) a step h is =
    let v = h.receiver in
    let op_is : leaving_op v ≡ Some step.op =
    op_of_step None (Some kind.StorePassed) (leaving_op v) step
    (ap leaver_due (sym h.there) ∙ sym is) in
    ap (λ (y : Machine E). slice_index y.words (register step.op)) h.after
    ∙ ap (λ o. slice_index (words_after m.words o) (register step.op)) op_is
    ∙ stood m.words step.op (subst (IsOnWord m) op_is h.within)

-- what was seen of a step
pub seen_so : (words : ℕ → ℕ) (due : Option Step) (step : Step) (found left : ℕ) → Some step ≡ due
    → found ≡ words (register step.op)
    → left ≡ after step.op (words (register step.op))
    → Some (record { step = step; found = found; left = left }) ≡ seen_in words due
seen_so words due step found left is f l =
    ap (λ n. Some record { step = step; found = n; left = left }) f
    ∙ ap (λ n. Some record { step = step; found = words (register step.op); left = n }) l
    ∙ ap (seen_in words) is

-- ---- a fork: its step is on the word in which the last receiver of its number would say that it
-- leaves
module _ {E : Type 0} (m new : Machine E) (i j : ℕ) (did : Bool) (passes : ShowsPassed m)
    (h : Forks m i j did new) where
  last_place : passed_by m.layout m.reuse j ≡ h.last.passed_at
  last_place = sym (passes j h.last h.was).0

  fork_step : fork_op m j (slice_get m.receivers i) ≡ joining_by h.last.passed_at h.maker.passed
  fork_step =
      ap (fork_op m j) h.there ∙ ap (λ place. joining_by place h.maker.passed) last_place

  leaver_is : leaver_due (slice_get m.receivers j)
      ≡ step_of None (Some kind.StorePassed) (leaving_by h.last.passed_at)
  leaver_is = ap leaver_due h.was

  no_word : (place : Option ℕ)
      → None ≡ step_of None (Some kind.StorePassed) (leaving_by place)
      → None ≡ word_in (slice_index m.words) (joining_by place h.maker.passed)
  no_word None is = refl
  no_word (Some at) is = absurd cc

  pub none_seen : None ≡ leaver_due (slice_get m.receivers j)
      → None ≡ word_in (slice_index m.words) (fork_op m j (slice_get m.receivers i))
  none_seen is =
      no_word h.last.passed_at (is ∙ leaver_is)
      ∙ ap (word_in (slice_index m.words)) (sym fork_step)

  -- what is seen of that word, before it and behind it
  module _ (step : Step) (at : Reg) (found left : ℕ) (on : at.0 ≡ register step.op)
      (finds : found ≡ slice_index m.words at.0) (leaves : left ≡ slice_index new.words at.0) where
    one_word : (place : Option ℕ) → h.last.passed_at ≡ place
        → Some step ≡ step_of None (Some kind.StorePassed) (leaving_by place)
        → Some (record { at = at; found = found; left = left })
        ≡ word_in (slice_index m.words) (joining_by place h.maker.passed)
    one_word None same is = absurd cc
    one_word (Some place) same is =
        let words = slice_index m.words in
        let o : Op = Cas (record { 0 = place }) PASSED_ALL h.maker.passed in
        let op_is : joining_by (passed_by m.layout m.reuse j) h.maker.passed ≡ Some o =
        ap (λ q. joining_by q h.maker.passed) (last_place ∙ same) in
        let there : at.0 ≡ place =
        on ∙ ap (λ (s : Step). register s.op) (same_Some _ _ is) in
        let stands : slice_index new.words place ≡ after o (words place) =
        ap (λ (y : Machine E). slice_index y.words place) h.after
        ∙ ap (λ q. slice_index (words_after m.words q) place) op_is
        ∙ stood m.words o (subst (IsOnWord m) op_is h.within) in
        ap (λ n. Some record { at = record { 0 = n }; found = found; left = left }) there
        ∙ ap (λ n. Some record { at = record { 0 = place }; found = n; left = left })
        (finds ∙ ap words there)
        ∙ ap (λ n. Some record { at = record { 0 = place }; found = words place; left = n })
        (leaves ∙ ap (slice_index new.words) there ∙ stands)

    pub word_seen : Some step ≡ leaver_due (slice_get m.receivers j)
        → Some (record { at = at; found = found; left = left })
        ≡ word_in (slice_index m.words) (fork_op m j (slice_get m.receivers i))
    word_seen is =
        one_word h.last.passed_at refl (is ∙ leaver_is)
        ∙ ap (word_in (slice_index m.words)) (sym fork_step)
