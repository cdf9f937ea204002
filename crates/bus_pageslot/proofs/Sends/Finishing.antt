-- Turns up to the end of the tenure that is begun: each takes one of those that are left of it,
-- none is of another, and at its end nothing of it is held.
use Rattle.std.proofs.Common.{◌≡◌, ℕ, ◌+◌, ◌≤◌, ◌⊎◌, inl, inr, Bool, true, false, Option, Some}
use Rattle.std.proofs.Common.{None, IsSome, IsSomeAnd, IfSome, refl, sym, ◌∙◌, ap, subst, is_some}
use Rattle.std.proofs.lemmas.Bool.{true≢false}
use Rattle.std.proofs.lemmas.Option.{same_Some}
use Rattle.bus_presence.specs.declared.pins.Pin.{Pin}
use Rattle.bus_presence.specs.declared.pins.Pin.TheVariants.{Away, Announcing, Validating, Pinned}
use Rattle.bus_presence.specs.declared.pins.Pin.TheVariants.{Unpinning, Invalidated}
use Rattle.bus_tenure.specs.Core.{Core, Election}
use Rattle.bus_tenure.specs.Classes.{is_last, is_refusal}
use Rattle.bus_tenure.specs.Seen.{HasElection, turns_of, tenure_of, is_holding}
use Rattle.bus_tenure.specs.declared.phases.Phase.{Phase}
use Rattle.bus_tenure.specs.declared.phases.Phase.TheVariants.{Resting, Electing, Taken, Holding}
use Rattle.bus_tenure.specs.declared.phases.Phase.TheVariants.{Giving}
use Rattle.bus_tenure.specs.declared.turns.Turn.{Turn}
use Rattle.bus_tenure.specs.declared.turns.Turn.TheVariants as turn
use Rattle.bus_core.specs.Keeping.{IsAway}
use Rattle.bus_core.specs.Reusing.Turns.{tenure_begun_by}
use Rattle.bus_core.specs.Seen.{tenure_begun, begun_by}
use Rattle.bus_core.specs.Senders.{Sender, situation, participant_of}
use Rattle.bus_core.specs.Table.{line_now}
use Rattle.bus_core.specs.Telling.{FeedTells, RestTells, HasBegunNone, LooksFirst}
use Rattle.bus_core.specs.declared.reuses.Reuse.{Reuse}
use Rattle.bus_register.specs.Protocol.{Protocol}
use Rattle.bus_register.specs.declared.kinds.Kind.{Kind}
use Rattle.bus_register.specs.declared.registers.Op.{Op}
use Rattle.bus_adoptcommit.specs.declared.verdicts.Verdict.{Verdict}
use Rattle.bus_tenure.specs.Bounds.{IsBounded}
use Rattle.bus_tenure.specs.Elections.{Elector, election_with}
use Rattle.bus_core.specs.Causes.{HasCause, HasRowReady, LooksAgain}
use Rattle.bus_core.specs.Places.{LiesAt}
use Rattle.bus_register.specs.Words.{register}
use Rattle.bus_automaton.specs.Buses.{process_with}
use Rattle.bus_automaton.specs.Processes.{Process}
use Rattle.bus_pageslot.specs.Seats.{SenderSeat}
use Rattle.bus_pageslot.specs.Turns.{Tellings, Turned, TurnsOn, Here, More, tells_with}
use Rattle.bus_pageslot.specs.Sendings.{KeptAfter}
use Rattle.bus_pageslot.proofs.Ruled.Keeping.{leaves_batch, going_keeps, refused_keeps}
use Rattle.bus_pageslot.specs.Finishing.{is_behind, ends_tenure, StaysOrEnds, is_sent, GoesThrough}
use Rattle.bus_pageslot.specs.Finishing.{Begun, Through, HasFinished, FinishesAs, FinishingRefuses}
use Rattle.bus_pageslot.proofs.Sends.TurnsLeft.{none_begun, IsTurn}
use Rattle.bus_pageslot.proofs.Sends.HoldingTurns.{turn_begun}

-- ---- of a process
-- who looks at the stage for the first time has begun no tenure
looks_rested : {E : Type 0} (v : Sender E) → LooksFirst v → HasBegunNone v
looks_rested v h = record { rests = h.looks.rests; away = h.away }

-- who looks at the stage again is in no tenure yet
again_rested : {E : Type 0} (c : Core E) (r : Option Reuse)
    → IsSomeAnd r (λ y. LooksAgain (participant_of c y)) → c.phase ≡ Resting
again_rested c None h = absurd h
again_rested c (Some r) h = h.may.looks.rests

-- who gives a page back pins none
gives_away : {E : Type 0} (c : Core E) (r : Option Reuse)
    → IfSome r (λ y. HasRowReady (participant_of c y)) → IsAway r
gives_away c None h = tt
gives_away c (Some r) h = h.away

-- who has nothing to do has begun no tenure
rest_none : {E : Type 0} (v : Sender E) (a : Turn) → RestTells v a → HasBegunNone v
rest_none v turn.Idle h = h.none
rest_none v turn.Closed h = h.none
rest_none v turn.Spent h = h.none
rest_none v turn.Waiting h = absurd h
rest_none v turn.Going h = absurd h
rest_none v (turn.Lost t o) h = absurd h
rest_none v (turn.Own t) h = absurd h
rest_none v (turn.Delivered t first last) h = absurd h
rest_none v (turn.Left t) h = absurd h
rest_none v turn.Full h = absurd h
rest_none v (turn.Behind t p) h = absurd h

-- ---- turns, one after another
module _ {E : Type 0} (P : Process (Sender E)) (T : Tellings (Sender E)) where
  -- they are turns of which none is a last one
  pub through_on : (t : ℕ) (first : SenderSeat (Sender E)) (count : ℕ)
      (new : SenderSeat (Sender E)) → GoesThrough P T t first count new → TurnsOn P T first new
  through_on t first _ _ (Begun some) = Here
  through_on t first _ _ (Through count old word answer new before turned last other some) =
      More old word answer new (through_on t first count old before) turned last

  -- that is the tenure which it has begun, and had at first
  pub through_begun : (t : ℕ) (first : SenderSeat (Sender E)) (count : ℕ)
      (new : SenderSeat (Sender E)) → GoesThrough P T t first count new
      → tenure_begun new.core ≡ Some t
  through_begun t first _ _ (Begun some) = some
  through_begun t first _ _ (Through count old word answer new before turned last other some) =
      some

  through_first : (t : ℕ) (first : SenderSeat (Sender E)) (count : ℕ)
      (new : SenderSeat (Sender E)) → GoesThrough P T t first count new
      → tenure_begun first.core ≡ Some t
  through_first t first _ _ (Begun some) = some
  through_first t first _ _ (Through count old word answer new before turned last other some) =
      through_first t first count old before

  -- turns of two tenures are refused, and turns of none; and a tenure that has not ended
  pub finishing_refuses : (X : Election E) (first new : SenderSeat (Sender E))
      → FinishingRefuses X P T first new
  finishing_refuses X first new = record {
    another = λ t u tenure count begun goes other through. other (same_Some _ _ (sym begun
        ∙ through_first tenure first count new through
        ∙ sym (through_begun tenure first count new through) ∙ goes));
    none = λ tenure count none through.
        let bad : None ≡ Some tenure =
        sym none ∙ through_first tenure first count new through
        in absurd cc;
    unended = λ answer other goes f. elim f.finished [
      | inl behind ↦ true≢false (sym behind.0 ∙ other)
      | inr ends ↦ true≢false (sym ends.0 ∙ goes)
    ];
    kept = λ answer other holds f. elim f.finished [
      | inl behind ↦ true≢false (sym behind.0 ∙ other)
      | inr ends ↦ true≢false (sym holds ∙ ends.1.no_page)
    ];
    elsewhere = λ answer t u begun goes other f. elim f.finished [
      | inl behind ↦ other (same_Some _ _ (sym begun
          ∙ through_first f.tenure first f.count f.old f.before ∙ sym behind.2 ∙ goes))
      | inr ends ↦ let bad : None ≡ Some u = sym ends.1.none ∙ goes in absurd cc
    ];
  }

pub not_some : {A : Type 0} (o : Option A) → is_some o ≡ false → o ≡ None
not_some None e = refl
not_some (Some x) e = absurd (true≢false e)

-- who has begun no tenure holds no page, and no election of it runs
rested : {E : Type 0} (X : Election E) (ph : Phase E) → tenure_of ph ≡ None
    → (turns_of X ph ≡ 0) × (is_holding ph ≡ false)
rested X Resting e = (refl, refl)
rested X (Electing t f) e = absurd cc
rested X (Taken t) e = absurd cc
rested X (Holding t page stored published) e = absurd cc
rested X (Giving t reason) e = absurd cc

unpinned : {E : Type 0} (c : Core E) (r : Option Reuse) → begun_by c r ≡ None
    → tenure_of c.phase ≡ None
unpinned {E} c None e = e
unpinned {E} c (Some r) e = by r.pin e where
  by : (pin : Pin) → tenure_begun_by c pin ≡ None → tenure_of c.phase ≡ None
  by Away e = e
  by (Announcing t) e = absurd cc
  by (Validating t) e = absurd cc
  by (Pinned t) e = absurd cc
  by (Unpinning t) e = absurd cc
  by (Invalidated t) e = absurd cc

-- who is behind ends no tenure
behind_not : (a : Turn) → is_behind a ≡ true → ends_tenure a ≡ true → ⊥
behind_not (turn.Behind t p) b e = true≢false (sym e)
behind_not turn.Idle b e = true≢false (sym b)
behind_not turn.Waiting b e = true≢false (sym b)
behind_not turn.Going b e = true≢false (sym b)
behind_not (turn.Lost t o) b e = true≢false (sym b)
behind_not (turn.Own t) b e = true≢false (sym b)
behind_not (turn.Delivered t first last) b e = true≢false (sym b)
behind_not (turn.Left t) b e = true≢false (sym b)
behind_not turn.Full b e = true≢false (sym b)
behind_not turn.Closed b e = true≢false (sym b)
behind_not turn.Spent b e = true≢false (sym b)

-- an end without which the batch is in the order is no last answer, or a refusal
kept_end : (a : Turn) → ends_tenure a ≡ true → is_sent a ≡ false
    → (is_last a ≡ false) ⊎ ((is_last a ≡ true) × (is_refusal a ≡ true))
kept_end turn.Waiting e s = inl refl
kept_end (turn.Lost t o) e s = inl refl
kept_end turn.Full e s = inr (refl, refl)
kept_end turn.Closed e s = inr (refl, refl)
kept_end (turn.Delivered t first last) e s = absurd (true≢false s)
kept_end (turn.Left t) e s = absurd (true≢false s)
kept_end turn.Idle e s = absurd (true≢false (sym e))
kept_end turn.Going e s = absurd (true≢false (sym e))
kept_end (turn.Own t) e s = absurd (true≢false (sym e))
kept_end turn.Spent e s = absurd (true≢false (sym e))
kept_end (turn.Behind t p) e s = absurd (true≢false (sym e))

module _ {S : Type 0} (kind_of : S → Option Kind) (op : S → ℕ → Option Op) (fed : S → ℕ → ℕ → S)
    (Q : Protocol S Bool Verdict) where
  abbrev P : Process (Sender (Elector S))
  P = process_with kind_of op fed Q

  abbrev T : Tellings (Sender (Elector S))
  T = tells_with kind_of op fed Q

  abbrev X : Election (Elector S)
  X = election_with kind_of op fed Q

  -- a turn of a tenure that is begun is a step, of which fewer are left
  pub turned_begun : (bound : ℕ → ℕ → ℕ) → IsBounded X bound
      → (old : SenderSeat (Sender (Elector S))) (word : ℕ) (a : Turn)
      (new : SenderSeat (Sender (Elector S))) → Turned P T old word a new
      → IsSome (tenure_begun old.core)
      → (HasElection old.core.core.phase → 1 ≤ P.turns_left old.core)
      → IfSome (P.kind old.core) (HasCause Q old.core)
      → IfSome ((line_now X old.core).op word)
      (λ o. LiesAt old.core (situation X old.core) (register o))
      → IsTurn X old.core a new.core
  unfolding process_with tells_with
  turned_begun bound bounded old word a new turned begun running caused lies =
      by (P.op old.core word) refl
    where
      by : (o : Option Op) → P.op old.core word ≡ o → IsTurn X old.core a new.core
      by None e =
          absurd (true≢false (sym begun
          ∙ ap is_some (none_begun old.core (rest_none old.core a (turned.rests e).2))))
      by (Some o) e =
          let told = turned.steps o e in
          let took = told.took in
          let tells : FeedTells X old.core took.got word (P.answer old.core took.got word) =
          subst (λ y. FeedTells X old.core took.got word y) took.answer told.tells in
          subst (λ (y : Turn × Sender (Elector S)). IsTurn X old.core y.0 y.1)
          (λ i. (sym took.answer i, sym took.core i))
          (turn_begun X old.core took.home took.got word begun running
          (λ k. looks_rested old.core (subst (λ y. IfSome y (HasCause Q old.core)) k caused))
          (λ k. gives_away old.core.core old.core.reuse
          (subst (λ y. IfSome y (HasCause Q old.core)) k caused).1)
          (λ k. again_rested old.core.core old.core.reuse
          (subst (λ y. IfSome y (HasCause Q old.core)) k caused))
          (λ k. subst (λ y. IfSome y (HasCause Q old.core)) k caused)
          (λ k. (subst (λ y. IfSome y (HasCause Q old.core)) k caused).0)
          (λ k. (subst (λ y. IfSome y (HasCause Q old.core)) k caused).0)
          (λ o same. subst (λ y. IfSome y
          (λ o. LiesAt old.core (situation X old.core) (register o))) same lies)
          (λ f. bounded.falls f took.got word) (ap is_some e) took.taken tells)

  pub has_finished : (s : SenderSeat (Sender (Elector S))) → tenure_begun s.core ≡ None
      → HasFinished P s
  unfolding process_with
  has_finished s none =
      let r = rested (election_with kind_of op fed Q) s.core.core.phase
      (unpinned s.core.core s.core.reuse none) in
      record { none = none; no_election = r.0; no_page = r.1 }

  -- after a turn with which it ends
  pub finishes_as : (t : ℕ) (old : SenderSeat (Sender (Elector S))) (a : Turn)
      (new : SenderSeat (Sender (Elector S))) → tenure_begun old.core ≡ Some t
      → StaysOrEnds old.core a new.core
      → (is_behind a ≡ true) ⊎ (is_some (tenure_begun new.core) ≡ false) → FinishesAs P t a new
  unfolding process_with
  finishes_as t old a new begun (inl stays) (inl behind) =
      inl (behind, stays.holds behind, stays.same ∙ begun)
  finishes_as t old a new begun (inl stays) (inr none) =
      absurd (true≢false (sym stays.begun ∙ none))
  finishes_as t old a new begun (inr ends) over = inr (ends.ends, has_finished new ends.none)

  -- of none
  pub goes_at_first : (first : SenderSeat (Sender (Elector S)))
      → is_some (tenure_begun first.core) ≡ true → (t : ℕ) × GoesThrough P T t first 0 first
  goes_at_first first some = by (tenure_begun first.core) refl where
    by : (o : Option ℕ) → tenure_begun first.core ≡ o → (t : ℕ) × GoesThrough P T t first 0 first
    by None e = absurd (true≢false (sym some ∙ ap is_some e))
    by (Some t) e = (t, Begun e)

  -- and after one with which it does not
  pub goes_through : (t : ℕ) (first : SenderSeat (Sender (Elector S))) (count : ℕ)
      (old : SenderSeat (Sender (Elector S))) (word : ℕ) (a : Turn)
      (new : SenderSeat (Sender (Elector S))) → GoesThrough P T t first count old
      → Turned P T old word a new → StaysOrEnds old.core a new.core
      → is_behind a ≡ false → is_some (tenure_begun new.core) ≡ true
      → GoesThrough P T t first (count + 1) new
  goes_through t first count old word a new before turned (inl stays) other some =
      Through count old word a new before turned stays.goes other
      (stays.same ∙ through_begun P T t first count old before)
  goes_through t first count old word a new before turned (inr ends) other some =
      absurd (true≢false (sym some ∙ ap is_some ends.none))

  -- its batch is kept, if that is not in the order
  pub finished_keeps : (t : ℕ) (first old : SenderSeat (Sender (Elector S))) (count word : ℕ)
      (a : Turn) (new : SenderSeat (Sender (Elector S))) → GoesThrough P T t first count old
      → Turned P T old word a new → StaysOrEnds old.core a new.core → is_sent a ≡ false
      → KeptAfter P first a new
  finished_keeps t first old count word a new before turned goes unsent =
      elim goes [
        | inl stays ↦ going stays.goes
        | inr ends ↦ elim (kept_end a ends.ends unsent) [
          | inl other ↦ going other
          | inr refused ↦ refused_keeps P T (leaves_batch kind_of op fed Q) first a new (record {
            old = old;
            word = word;
            before = through_on P T t first count old before;
            turned = turned;
            last = refused.0;
          }) refused.1
        ]
      ]
    where
      going : is_last a ≡ false → KeptAfter P first a new
      going other =
          inl (going_keeps P T (leaves_batch kind_of op fed Q) first old word a new
          (through_on P T t first count old before) turned other)
