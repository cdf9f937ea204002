-- Each kind of step has its cause.
use Rattle.std.proofs.Common.{◌≡◌, inl, inr, ℕ, ◌<◌, Bool, true, false, Option, Some, None, IfSome}
use Rattle.std.proofs.Common.{IsSomeAnd, is_some, refl, sym, ◌∙◌, ap, subst}
use Rattle.bus_register.specs.declared.kinds.Kind.{Kind}
use Rattle.bus_register.specs.declared.registers.Op.{Op}
use Rattle.bus_register.specs.declared.registers.SenderNo.{SenderNo}
use Rattle.bus_register.specs.Protocol.{Protocol}
use Rattle.bus_adoptcommit.specs.declared.verdicts.Verdict.{Verdict}
use Rattle.bus_adoptcommit.specs.Kinds.{IsOfRatifier, IsNamedFor}
use Rattle.bus_ownerbits.proofs.ElectionIsLawful.{last_bit as at_last_bit}
use Rattle.bus_ownerbits.specs.Sizes.{decision_cost}
use Rattle.bus_binconsensus.specs.Decisions.{decisions}
use Rattle.bus_presence.specs.Reclaimers.{Reclaiming}
use Rattle.bus_presence.specs.declared.pins.Pin.TheVariants.{Announcing, Validating, Unpinning}
use Rattle.bus_presence.specs.declared.pins.Pin.TheVariants.{Invalidated}
use Rattle.bus_tenure.specs.Causes.{LooksForTenure, IsElected, HasHandedOn}
use Rattle.bus_tenure.specs.Core.{Core, Election, row_at}
use Rattle.bus_tenure.specs.Elections.{Elector, ElectorKeeps, elections, election_with}
use Rattle.bus_tenure.specs.Keeping.{SenderInvariant, PhaseKeeps, IsElecting}
use Rattle.bus_tenure.specs.Situations.{Situation as Own, IsClosed, IsIdle, IsSpent, LooksAtStage}
use Rattle.bus_tenure.specs.Situations.{Elects, TakesPage, AwaitsPage, StoresWord, StoresLength}
use Rattle.bus_tenure.specs.Situations.{GivesBack, HasHanded, situation_at, situation_of}
use Rattle.bus_tenure.specs.declared.phases.Phase.TheVariants.{Electing}
use Rattle.bus_tenure.specs.declared.phases.Reason.TheVariants.{NoRoom}
use Rattle.bus_tenure.proofs.Caused.{word_cause, length_cause, back_cause, unfitting_cause}
use Rattle.bus_tenure.proofs.Caused.{timely}
use Rattle.bus_tenure.proofs.Looking.{looks_at_rest}
use Rattle.bus_tenure.proofs.Situated.{tells}
use Rattle.bus_core.specs.Causes.{HasCause, IsCaused, StandsInside, StandsInRow, EntersTenure}
use Rattle.bus_core.specs.Causes.{LooksAgain, LeavesTenure, AsLoser, AsHolder, AsLate}
use Rattle.bus_core.specs.Causes.{MakesRowReady, AsksSender, ClearsWord, AsksPassed, HasRowReady}
use Rattle.bus_core.specs.Keeping.{ReuseKeeps, IsAway}
use Rattle.bus_core.specs.Places.{StandsIn}
use Rattle.bus_core.specs.Reusing.Keeping.{IsBound, IsOutside, IsRowReady, PinKeeps, LostKeeps}
use Rattle.bus_core.specs.Reusing.Keeping.{ParticipantKeeps, held_of}
use Rattle.bus_core.specs.Reusing.Participants.{sizes_with}
use Rattle.bus_core.specs.Reusing.Telling.{Returns, Gives, Says}
use Rattle.bus_core.specs.Senders.{Sender, Situation, Does, Announces, Validates, Unpins}
use Rattle.bus_core.specs.Senders.{Withdraws, Scans, Clears, ReadsPassed, participant_of}
use Rattle.bus_core.specs.Senders.{situation}
use Rattle.bus_core.specs.Table.{line}
use Rattle.bus_core.specs.declared.reuses.Passing.{Passing}
use Rattle.bus_core.specs.declared.reuses.Reuse.{Reuse}
use Rattle.bus_core.proofs.ElectionCauses.{election_cause}
use Rattle.bus_core.proofs.Reusing.Tells.{ChoosesItself}
use Rattle.bus_core.proofs.Situated.{Reclaims, GoesCalmly, situation_tells, some_kept, stands_in}
use Rattle.bus_core.proofs.Situated.{calm_away, goes_away, held_reclaimer, row_ready}

-- ---- who looks at the stage
-- it has something to send, and a tenure left to enter
pub looks_cause : {E : Type 0} (X : Election E) (c : Core E) → situation_of X c ≡ LooksAtStage
    → LooksForTenure c
looks_cause X c i =
    let rests = tells X c LooksAtStage i in
    looks_at_rest c rests (sym (ap (situation_at X c) rests) ∙ i)

-- an owner that stands
owner_some : (x : Option ℕ) → is_some x ≡ true → (o : ℕ) × (x ≡ Some o)
owner_some (Some o) h = (o, refl)
owner_some None h = absurd cc

-- and none, where none stands
no_owner : (x : Option ℕ) → is_some x ≡ false → x ≡ None
no_owner (Some o) h = absurd cc
no_owner None h = refl

-- a cause of whatever the step is for
for_kind : (Q : Kind → Type 0) (x : Option Kind) → IfSome x Q → (k : Kind) → x ≡ Some k → Q k
for_kind Q x h k e = let g : IfSome (Some k) Q = subst (λ y. IfSome y Q) e h in g

-- ---- only where rows are used again
module _ {E : Type 0} (X : Election E) (width : ℕ) (Belongs : ℕ → E → Type 0) (c : Core E)
    (reuse : Option Reuse)
    (k : ReuseKeeps width Belongs c reuse) where
  -- who stores its presence may begin its tenure
  enters : (t : ℕ) → IsSomeAnd reuse (λ r. r.pin ≡ Announcing t)
      → IsSomeAnd reuse (λ r. EntersTenure (participant_of c r))
  enters t w = some_kept width Belongs c (λ r. r.pin ≡ Announcing t)
      (λ r. EntersTenure (participant_of c r)) reuse k
      (λ r h e.
      let may : IsBound c t = subst (PinKeeps Belongs c) e h.pin in
      record { tenure = t; pin = e; may = may }) w

  -- and so may who looks at the stage again
  looks_again : (t : ℕ) → IsSomeAnd reuse (λ r. r.pin ≡ Validating t)
      → IsSomeAnd reuse (λ r. LooksAgain (participant_of c r))
  looks_again t w = some_kept width Belongs c (λ r. r.pin ≡ Validating t)
      (λ r. LooksAgain (participant_of c r)) reuse k
      (λ r h e.
      let may : IsBound c t = subst (PinKeeps Belongs c) e h.pin in
      record { tenure = t; pin = e; may = may }) w

  -- who clears its presence has lost the tenure, or taken its page
  leaves : (t : ℕ) → IsSomeAnd reuse (λ r. r.pin ≡ Unpinning t)
      → IsSomeAnd reuse (λ r. LeavesTenure (participant_of c r))
  leaves t w = some_kept width Belongs c (λ r. r.pin ≡ Unpinning t)
      (λ r. LeavesTenure (participant_of c r)) reuse k
      (λ r h e. by r e r.lost refl h.lost) w
    where
      by : (r : Reuse) → r.pin ≡ Unpinning t → (l : Option SenderNo) → r.lost ≡ l
          → LostKeeps c.me c.phase r.pin l
          → LeavesTenure (participant_of c r)
      by r e None q kept = AsHolder t e (kept t e)
      by r e (Some o) q kept = AsLoser t o e q kept.rests

  -- or came too late for it
  leaves_late : (t : ℕ) → IsSomeAnd reuse (λ r. r.pin ≡ Invalidated t)
      → IsSomeAnd reuse (λ r. LeavesTenure (participant_of c r))
  leaves_late t w = some_kept width Belongs c (λ r. r.pin ≡ Invalidated t)
      (λ r. LeavesTenure (participant_of c r)) reuse k
      (λ r h e. AsLate t e (subst (PinKeeps Belongs c) e h.pin)) w

  -- a holder makes the next row ready before it gives the page back
  makes_ready : (r : Reuse) → ParticipantKeeps width Belongs (participant_of c r) → (s : Reclaiming)
      → Reclaims r (situation_of X c) s
      → MakesRowReady (participant_of c r) s
  makes_ready r h s w =
      let at = tells X c (GivesBack w.tenure w.page w.reason) w.gives in
      let g = held_reclaimer width Belongs c r h s w.is in
      record {
        away = calm_away width Belongs c r h (subst IsOutside (sym at.2) tt) w.calm;
        leaves = back_cause c w.tenure w.page at.0 at.1 at.2 w.reason
            (sym (ap (situation_at X c) at.2) ∙ w.gives);
        reclaims = w.is;
        tenure = g.tenure;
        held = g.held;
        after = g.after;
      }

  -- who gives the page back, or has handed it on, has made the next row ready
  made_ready : (t : ℕ) → Returns t (situation_of X c) → IsOutside c.phase → held_of c.phase ≡ Some t
      → IfSome reuse (λ r. GoesCalmly r (situation_of X c))
      → IfSome reuse (λ r. HasRowReady (participant_of c r))
  made_ready t w out held g =
      by reuse (goes_away width Belongs c reuse k out _ g)
      (row_ready width Belongs c reuse k t (situation_of X c) w
      (λ reason i. tells X c (HasHanded t reason) i) held g)
    where
      by : (r : Option Reuse) → IsAway r
          → IfSome r (λ r. IsRowReady (sizes_with c.layout r.rows) t r.reclaimer)
          → IfSome r (λ r. HasRowReady (participant_of c r))
      by None away ready = tt
      by (Some r) away ready = record { away = away; tenure = t; held = held; ready = ready }

-- ---- in an election
module _ {E : Type 0} (v : Sender E) (t : ℕ) (e : E) (elects : v.core.phase ≡ Electing t e) where
  -- where rows are used again it stands in its tenure
  stands_inside : StandsIn v.reuse t → StandsInside v
  stands_inside w = by v.reuse w where
    by : (r : Option Reuse) → StandsIn r t → IfSome r (λ r. StandsInRow (participant_of v.core r))
    by None w = tt
    by (Some r) w = record { tenure = t; election = e; pin = w; elects = elects }

-- ---- each situation
module _ {S : Type 0} (kind_of : S → Option Kind) (op : S → ℕ → Option Op) (fed : S → ℕ → ℕ → S)
    (P : Protocol S Bool Verdict)
    (named : (s : S) (word : ℕ) → is_some (kind_of s) ≡ is_some (op s word))
    (own : (s : S) (k : Kind) → kind_of s ≡ Some k → IsOfRatifier k)
    (named_for : (s : S) (k : Kind) (word : ℕ) (o : Op) → kind_of s ≡ Some k → op s word ≡ Some o
    → IsNamedFor k o (P.has_begun s)) where
  -- the election that it goes by
  abbrev X : Election (Elector S)
  X = election_with kind_of op fed P

  -- what a sender keeps in its tenures
  abbrev pub TurnsKeep : Core (Elector S) → Type 0
  TurnsKeep c =
      SenderInvariant ((elections P c.layout.rounds).width c.layout.senders)
      (ElectorKeeps P c.layout.rounds c.layout.senders c.me) c

  -- a page is taken only where the election chose the sender
  pub chooses : (c : Core (Elector S)) → TurnsKeep c → ChoosesItself X c
  chooses c k t i =
      let at = tells X c (TakesPage t) i in
      let h : IsElecting (ElectorKeeps P c.layout.rounds c.layout.senders c.me) c t at.0 =
      subst (PhaseKeeps (ElectorKeeps P c.layout.rounds c.layout.senders c.me) c) at.1 k.phase in
      let o = owner_some (X.owner at.0) at.2 in
      (at.0, at.1, o.1 ∙ ap Some (h.belongs.unlost o.0 o.1))

  -- at the last bit
  takes_cause : (c : Core (Elector S)) → TurnsKeep c → (t : ℕ) → situation_of X c ≡ TakesPage t
      → IsElected P c
  takes_cause c k t i =
      let w = chooses c k t i in
      let h : IsElecting (ElectorKeeps P c.layout.rounds c.layout.senders c.me) c t w.0 =
      subst (PhaseKeeps (ElectorKeeps P c.layout.rounds c.layout.senders c.me) c) w.1 k.phase in
      record {
        tenure = t;
        election = w.0;
        elects = w.1;
        last_bit = at_last_bit (decisions P) (decision_cost P.steps) c.layout.rounds
            c.layout.senders c.me (row_at c.layout t) c.me w.0
            h.belongs.belongs w.2;
        spells = w.2;
      }

  module _ (width : ℕ) (Belongs : ℕ → Elector S → Type 0) (v : Sender (Elector S))
      (k : TurnsKeep v.core)
      (g : ReuseKeeps width Belongs v.core v.reuse) where
    -- who goes on in its tenure, and whose election does not run, pins none
    away : (z : Own (Elector S)) → situation X v ≡ Does z → IsOutside v.core.phase → IsAway v.reuse
    away z i out = goes_away width Belongs v.core v.reuse g out _ (situation_tells X v (Does z) i).1

    -- each situation has the cause of its kind
    by_situation : (z : Situation (Elector S)) → situation X v ≡ z
        → IfSome (line X v z).kind (HasCause P v)
    by_situation (Does IsClosed) i = tt
    by_situation (Does IsIdle) i = tt
    by_situation (Does IsSpent) i = tt
    by_situation (Does LooksAtStage) i =
        let looks = looks_cause X v.core (situation_tells X v (Does LooksAtStage) i).0 in
        record { away = away LooksAtStage i (subst IsOutside (sym looks.rests) tt); looks = looks }
    by_situation (Does (Elects t e)) i =
        let w = tells X v.core (Elects t e) (situation_tells X v (Does (Elects t e)) i).0 in
        election_cause P v t e w.0 (no_owner (X.owner e) w.1) k
        (stands_inside v t e w.0 (stands_in width Belongs v.core v.reuse g t e w.0)) kind_of
        (timely P kind_of op named own named_for) (X.kind_of e) refl
    by_situation (Does (TakesPage t)) i =
        let w = takes_cause v.core k t (situation_tells X v (Does (TakesPage t)) i).0 in (
          stands_inside v w.tenure w.election w.elects
              (stands_in width Belongs v.core v.reuse g w.tenure w.election w.elects),
          w,
        )
    by_situation (Does (AwaitsPage t)) i = tt
    by_situation (Does (StoresWord t page stored)) i =
        let here = (situation_tells X v (Does (StoresWord t page stored)) i).0 in
        let at = tells X v.core (StoresWord t page stored) here in (
          away (StoresWord t page stored) i (subst IsOutside (sym at.1) tt),
          word_cause v.core t page stored at.0 at.1 (sym (ap (situation_at X v.core) at.1) ∙ here),
        )
    by_situation (Does (StoresLength t page stored)) i =
        let here = (situation_tells X v (Does (StoresLength t page stored)) i).0 in
        let at = tells X v.core (StoresLength t page stored) here in (
          away (StoresLength t page stored) i (subst IsOutside (sym at.1) tt),
          length_cause v.core t page stored at.0 at.1 _ _ k
              (sym (ap (situation_at X v.core) at.1) ∙ here),
        )
    by_situation (Does (GivesBack t page reason)) i =
        let s = situation_tells X v (Does (GivesBack t page reason)) i in
        let at = tells X v.core (GivesBack t page reason) s.0 in
        let back = back_cause v.core t page at.0 at.1 at.2 reason
        (sym (ap (situation_at X v.core) at.2) ∙ s.0) in (
          inl back,
          made_ready X width Belongs v.core v.reuse g t
              (subst (Returns t) (sym s.0) (Gives page reason))
              (subst IsOutside (sym at.2) tt) (ap held_of at.2) s.1,
        )
    by_situation (Does (HasHanded t reason)) i =
        let s = situation_tells X v (Does (HasHanded t reason)) i in
        let at = tells X v.core (HasHanded t reason) s.0 in
        let handed : HasHandedOn v.core = record { tenure = t; reason = reason; gives = at } in (
          inr handed,
          made_ready X width Belongs v.core v.reuse g t (subst (Returns t) (sym s.0) (Says reason))
              (subst IsOutside (sym at) tt) (ap held_of at) s.1,
        )
    by_situation (Announces t) i =
        enters X width Belongs v.core v.reuse g t (situation_tells X v (Announces t) i)
    by_situation (Validates t) i =
        looks_again X width Belongs v.core v.reuse g t (situation_tells X v (Validates t) i)
    by_situation (Unpins t) i =
        leaves X width Belongs v.core v.reuse g t (situation_tells X v (Unpins t) i)
    by_situation (Withdraws t) i =
        leaves_late X width Belongs v.core v.reuse g t (situation_tells X v (Withdraws t) i)
    by_situation (Scans s) i =
        some_kept width Belongs v.core _ (λ r. AsksSender (participant_of v.core r)) v.reuse g
        (λ r h w. record {
          reclaimer = s;
          makes = makes_ready X width Belongs v.core v.reuse g r h s w.0;
          sender_left = w.1;
        })
        (situation_tells X v (Scans s) i)
    by_situation (Clears s) i =
        some_kept width Belongs v.core _ (λ r. ClearsWord (participant_of v.core r)) v.reuse g
        (λ r h w. record {
          reclaimer = s;
          makes = makes_ready X width Belongs v.core v.reuse g r h s w.0;
          clearing = w.1;
        })
        (situation_tells X v (Clears s) i)
    by_situation (ReadsPassed t p) i =
        some_kept width Belongs v.core _ (λ r. AsksPassed (participant_of v.core r)) v.reuse g
        (λ r h w.
        let at = tells X v.core (GivesBack t w.page NoRoom) w.gives in
        record {
          away = calm_away width Belongs v.core r h (subst IsOutside (sym at.2) tt) w.calm;
          lacks = unfitting_cause v.core t w.page at.0 at.1 at.2
              (sym (ap (situation_at X v.core) at.2) ∙ w.gives);
          left = subst (λ (q : Passing). q.loaded < v.core.layout.passers) (sym w.is) w.left;
        })
        (situation_tells X v (ReadsPassed t p) i)

    -- whatever the next step is for
    pub line_is_caused : IsCaused X P v
    line_is_caused kd e = for_kind (HasCause P v) _ (by_situation (situation X v) refl) kd e

-- a cause of what a step is told to be for
pub caused_for : {S : Type 0} (P : Protocol S Bool Verdict) (v : Sender (Elector S))
    (x : Option Kind)
    → ((k : Kind) → x ≡ Some k → HasCause P v k) → IfSome x (HasCause P v)
caused_for P v None h = tt
caused_for P v (Some k) h = h k refl
