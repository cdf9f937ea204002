-- What the answer of a step tells.
use Rattle.std.specs.Prelude.{◌⊎◌}
use Rattle.std.proofs.Common.{◌≡◌, ◌≢◌, inl, inr, ℕ, ◌+◌, ◌*◌, ◌/◌, ◌<◌, ◌≤◌, Bool, true, false}
use Rattle.std.proofs.Common.{cond, Option, Some, None, IsSome, IfSome, IsSomeAnd, nat_le, ◌==◌}
use Rattle.std.proofs.Common.{◌&&◌, refl, sym, ◌∙◌, ap, subst, arith}
use Rattle.std.proofs.lemmas.Bool.{leb-false, leb-true, lt-ltb, le-ltb, eqb-true, eqb-false}
use Rattle.std.proofs.lemmas.Bool.{eq-eqb, true≢false}
use Rattle.std.proofs.lemmas.Option.{same_Some}
use Rattle.bus_register.specs.Words.{register}
use Rattle.bus_register.specs.declared.registers.Op.TheVariants.{Load}
use Rattle.bus_register.specs.declared.registers.SenderNo.{SenderNo}
use Rattle.bus_batch.specs.declared.batches.Phase.{Phase as BatchPhase}
use Rattle.bus_batch.specs.declared.batches.Phase.TheVariants.{Open, Marking, Closed}
use Rattle.bus_batch.specs.declared.messages.Mark.TheVariants as mark
use Rattle.bus_presence.specs.Reclaimers.{Reclaiming, behind_of}
use Rattle.bus_presence.specs.Reclamation.{presence_at}
use Rattle.bus_presence.specs.declared.reclaimers.Behind.{Behind}
use Rattle.bus_presence.specs.declared.pins.Pin.TheVariants.{Away, Announcing, Validating, Pinned}
use Rattle.bus_presence.specs.declared.pins.Pin.TheVariants.{Unpinning, Invalidated}
use Rattle.bus_tenure.specs.Core.{Election, is_marking, is_closing, is_leaving, row_at}
use Rattle.bus_tenure.specs.Seen.{HasElection, AwaitsItsPage}
use Rattle.bus_tenure.specs.Situations.{Situation as Own, IsClosed, IsIdle, IsSpent, LooksAtStage}
use Rattle.bus_tenure.specs.Situations.{Elects, TakesPage, AwaitsPage, StoresWord, StoresLength}
use Rattle.bus_tenure.specs.Situations.{GivesBack, HasHanded, situation_of, waits, core_begun}
use Rattle.bus_tenure.specs.Situations.{answer_sent, answer_of_return}
use Rattle.bus_tenure.specs.declared.phases.Phase.{Phase}
use Rattle.bus_tenure.specs.declared.phases.Phase.TheVariants.{Resting, Electing}
use Rattle.bus_tenure.specs.declared.phases.Reason.{Reason}
use Rattle.bus_tenure.specs.declared.phases.Reason.TheVariants.{Sent, FoundEnd, NoRoom}
use Rattle.bus_tenure.specs.declared.turns.Turn.TheVariants as turn
use Rattle.bus_tenure.proofs.Situated.{tells}
use Rattle.bus_core.specs.Keeping.{ReuseKeeps}
use Rattle.bus_core.specs.Reusing.Keeping.{IsBound, PinKeeps, LostKeeps, held_of}
use Rattle.bus_core.specs.Reusing.Participants.{sizes_with}
use Rattle.bus_core.specs.Reusing.Passing.{passing_left}
use Rattle.bus_core.specs.Reusing.Telling.{Returns, Gives, Says, HasPublished}
use Rattle.bus_core.specs.Reusing.Turns.{answer_of_loss, answer_of_reclaim}
use Rattle.bus_core.specs.Senders.{Sender, Situation, Does, Announces, Validates, Unpins}
use Rattle.bus_core.specs.Senders.{Withdraws, Scans, Clears, ReadsPassed, passed_start, pinning}
use Rattle.bus_core.specs.Senders.{situation_by, situation}
use Rattle.bus_core.specs.Table.{line, line_now, rest_at, seen, lost_of, answer_elected}
use Rattle.bus_core.specs.Telling.{FeedTells, RestTells, RestIsTold, IsInvalidated, Loses, LosesBy}
use Rattle.bus_core.specs.Telling.{IsChosen, GivesReady, IsBehind, Begins, RunsElection}
use Rattle.bus_core.specs.Telling.{TellsNoMore}
use Rattle.bus_core.specs.declared.limits.TheConstants.{PASSED_APART}
use Rattle.bus_core.specs.declared.reuses.Passing.{Passing}
use Rattle.bus_core.specs.declared.reuses.Reuse.{Reuse}
use Rattle.bus_core.proofs.Looking.{vain_of, waits_of, opened_of, first_looks, looks_first}
use Rattle.bus_core.proofs.Looking.{rests_idle, rests_closed, rests_spent}
use Rattle.bus_core.proofs.Reusing.Tells.{ChoosesItself, Shows, takes_page, gives_shows}
use Rattle.bus_core.proofs.Reusing.Tells.{shown_handed}
use Rattle.bus_core.proofs.Situated.{SituationTells, situation_tells, own_is, some_kept, stands_in}
use Rattle.bus_core.proofs.Situated.{held_reclaimer, row_ready, passed_behind}

-- ---- situations
-- its step may be answered by Going
abbrev IsGoing : {E : Type 0} → Situation E → Type 0
IsGoing (Does (TakesPage t)) = ⊥
IsGoing (Does (GivesBack t page reason)) = ⊥
IsGoing (Does (HasHanded t reason)) = ⊥
IsGoing (Withdraws t) = ⊥
IsGoing z = Unit {0}

-- with its step no tenure is lost
abbrev LosesNone : {E : Type 0} → Situation E → Type 0
LosesNone (Does (Elects t e)) = ⊥
LosesNone (Unpins t) = ⊥
LosesNone z = Unit {0}

-- the step that gives the page back, or says that it is handed on, is not answered so
returns_not : {E : Type 0} (t : ℕ) (z : Own E) → Returns t z → ¬ IsGoing (Does z)
returns_not t z (Gives page reason) g = g
returns_not t z (Says reason) g = g

-- one situation has one election
pub same_step : {E : Type 0} (t u : ℕ) (e f : E)
    → ◌≡◌ {A = Situation E} (Does (Elects t e)) (Does (Elects u f)) → e ≡ f
same_step t u e f i = cc

-- and looks again for one tenure
same_look : {E : Type 0} (t u : ℕ) → ◌≡◌ {A = Situation E} (Validates t) (Validates u) → t ≡ u
same_look t u i = cc

-- one phase has one tenure
same_phase : {E : Type 0} (t u : ℕ) (e f : E) → ◌≡◌ {A = Phase E} (Electing t e) (Electing u f)
    → t ≡ u
same_phase t u e f i = cc

module _ {E : Type 0} (X : Election E) (v : Sender E) (got word : ℕ) where
  -- what it does in its tenure
  abbrev own : Own E
  own = situation_of X v.core

  -- ---- what is told of it tells its situation
  -- it is to clear its presence
  unpins_by : (t : ℕ) (reuse : Option Reuse) → IsSomeAnd reuse (λ r. r.pin ≡ Unpinning t)
      → situation_by v.core.layout.passers reuse own ≡ Unpins t
  unpins_by t None p = absurd p
  unpins_by t (Some r) p =
      ap (λ u. pinning u (passing_left v.core.layout.passers r.passed) r.reclaimer own) p

  -- its presence stands, and it is to look at the stage again
  validates_by : (t : ℕ) (reuse : Option Reuse) → IsSomeAnd reuse (λ r. r.pin ≡ Validating t)
      → situation_by v.core.layout.passers reuse own ≡ Validates t
  validates_by t None p = absurd p
  validates_by t (Some r) p =
      ap (λ u. pinning u (passing_left v.core.layout.passers r.passed) r.reclaimer own) p

  -- or came too late
  withdraws_by : (reuse : Option Reuse) → IsSomeAnd reuse (λ r. IsInvalidated r)
      → (t : ℕ) × (situation_by v.core.layout.passers reuse own ≡ Withdraws t)
  withdraws_by None w = absurd w
  withdraws_by (Some r) w = (
    w.tenure,
    ap (λ u. pinning u (passing_left v.core.layout.passers r.passed) r.reclaimer own) w.is,
  )

  -- its election chose it
  takes_by : (t : ℕ) → IsChosen X v t → situation X v ≡ Does (TakesPage t)
  takes_by t w =
      ap (situation_by v.core.layout.passers v.reuse)
      (takes_page X v.core t w.election v.core.me w.elects w.chosen)
      ∙ by v.reuse w.pinned
    where
      by : (reuse : Option Reuse) → IfSome reuse (λ r. r.pin ≡ Pinned t)
          → situation_by {E = E} v.core.layout.passers reuse (TakesPage t) ≡ Does (TakesPage t)
      by None p = refl
      by (Some r) p =
          ap
          (λ u. pinning u (passing_left v.core.layout.passers r.passed) r.reclaimer (TakesPage t)) p

  -- after a second look the election of its presence's tenure runs if that was of this tenure, and
  -- else none does
  abbrev EntersIn : Situation E → ℕ → Type 0
  EntersIn z t =
      (got / 2 ≡ t → RunsElection ((line X v z).fed got word).core t)
      × ((u : ℕ) → RunsElection ((line X v z).fed got word).core u → (u ≡ t) × (got / 2 ≡ t))

  abbrev EntersBy : ℕ → Type 0
  EntersBy t = EntersIn (situation X v) t

  -- ---- a step with which nothing is told
  module _ (z : Situation E) (i : situation X v ≡ z) where
    -- who loads no presence is behind nobody
    unasked : ((rows p : ℕ)
        → (line X v z).op word
        ≢ Some (Load record { 0 = presence_at (sizes_with v.core.layout rows) p }))
        → (t p : ℕ) → ¬ IsSomeAnd v.reuse (λ r. IsBehind X v got word t p r)
    unasked other t p w = by v.reuse w where
      by : (reuse : Option Reuse) → ¬ IsSomeAnd reuse (λ r. IsBehind X v got word t p r)
      by None w = w
      by (Some r) w = other r.rows p (sym (ap (λ y. (line X v y).op word) i) ∙ w.loads)

    -- no tenure is lost but with a step of an election, or one that clears a presence
    lost_not : LosesNone z → (t : ℕ) (o : SenderNo) → ¬ Loses X v got word t o
    lost_not none t o w = by v.reuse refl w where
      by : (reuse : Option Reuse) → v.reuse ≡ reuse → ¬ LosesBy X v got word t o reuse
      by None e w = subst LosesNone (sym i ∙ w.elects) none
      by (Some r) e w = subst LosesNone
          (sym i ∙ ap (λ y. situation_by v.core.layout.passers y own) e
          ∙ unpins_by t (Some r) w.parts) none

    -- nothing else is told
    quiet : IsGoing z → ((t : ℕ) (o : SenderNo) → ¬ Loses X v got word t o)
        → ((t : ℕ) → z ≡ Unpins t → held_of v.core.phase ≡ Some t)
        → (z ≡ Does LooksAtStage
        → (waits v.core got ≡ false) × (got / 2 < v.core.layout.rows)
        × Begins ((line_now X v).fed got word) (got / 2))
        → ((t : ℕ) → z ≡ Validates t → EntersBy t)
        → ((t p : ℕ) → ¬ IsSomeAnd v.reuse (λ r. IsBehind X v got word t p r))
        → TellsNoMore X v got word
    quiet going loses holds looks second behind = record {
      loses = loses;
      holds = λ t p. holds t (sym i ∙ unpins_by t v.reuse p);
      invalidated = λ w. subst IsGoing (sym i ∙ (withdraws_by v.reuse w).1) going;
      takes = λ t w. subst IsGoing (sym i ∙ takes_by t w) going;
      gives = λ t w. returns_not t own w.returns (subst IsGoing (sym i ∙ w.does) going);
      waits = λ w. true≢false
          (sym (waits_of v.core got w.vain) ∙ (looks (sym i ∙ first_looks X v w.looks)).0);
      spent = λ w.
          let below = (looks (sym i ∙ first_looks X v w.looks)).1 in
          let past = w.past in omega arith;
      begins = λ w. (looks (sym i ∙ first_looks X v w)).2;
      enters = λ t w. (second t (sym i ∙ validates_by t v.reuse w)).0;
      enters_only = λ t u w. (second t (sym i ∙ validates_by t v.reuse w)).1 u;
      behind = behind;
    }

  module _ (width : ℕ) (Belongs : ℕ → E → Type 0)
      (k : ReuseKeeps width Belongs v.core v.reuse) where
    -- ---- a first look at the stage
    -- the tenure that the stage shows has begun
    begun : situation X v ≡ Does LooksAtStage → waits v.core got ≡ false
        → nat_le v.core.layout.rows (got / 2) ≡ false
        → Begins ((line_now X v).fed got word) (got / 2)
    begun i e f = subst (λ y. Begins ((line X v y).fed got word) (got / 2)) (sym i) (by v.reuse)
      where
        by : (reuse : Option Reuse) → Begins (seen X v.core reuse got) (got / 2)
        by None =
            let past = record v.core { least = got / 2 } in
            let begins = core_begun X v.core (got / 2) in (
              X.started v.core.layout.senders v.core.me v.core.layout.rounds
                  (row_at v.core.layout (got / 2)),
              ap
                  (λ a.
                  (cond a v.core (cond (nat_le v.core.layout.rows (got / 2)) past begins)).phase) e
                  ∙ ap (λ a. (cond a past begins).phase) f,
            )
        by (Some r) =
            ap (λ a.
            cond a Away (cond (nat_le v.core.layout.rows (got / 2)) Away (Announcing (got / 2)))) e
            ∙ ap (λ a. cond a Away (Announcing (got / 2))) f

    -- which is answered by what it found
    looks : situation X v ≡ Does LooksAtStage → (a b : Bool) → waits v.core got ≡ a
        → nat_le v.core.layout.rows (got / 2) ≡ b
        → FeedTells X v got word (cond a turn.Waiting (cond b turn.Spent turn.Going))
    looks i true b e f = inl record {
      looks = looks_first X v width Belongs k i;
      vain = vain_of v.core got e;
    }
    looks i false true e f =
        let o = opened_of v.core got e in
        record {
          looks = looks_first X v width Belongs k i;
          opened = o.0;
          may = o.1;
          past = leb-true v.core.layout.rows (got / 2) f;
        }
    looks i false false e f =
        quiet (Does LooksAtStage) i tt (lost_not (Does LooksAtStage) i tt) (λ t q. absurd cc)
        (λ q. (e, leb-false v.core.layout.rows (got / 2) f, begun i e f)) (λ t q. absurd cc)
        (unasked (Does LooksAtStage) i
        (λ rows p q. let n = ap register (same_Some _ _ q) in omega arith))

    -- ---- a second look at the stage
    module _ (t : ℕ) (i : situation X v ≡ Validates t) where
      -- it rests before
      rests : v.core.phase ≡ Resting
      rests = by v.reuse k (situation_tells X v (Validates t) i) where
        by : (reuse : Option Reuse) → ReuseKeeps width Belongs v.core reuse
            → IsSomeAnd reuse (λ r. r.pin ≡ Validating t)
            → v.core.phase ≡ Resting
        by None h p = absurd p
        by (Some r) h p =
            let may : IsBound v.core t = subst (PinKeeps Belongs v.core) p h.pin in may.looks.rests

      -- where it finds the tenure that its presence names, it begins that
      enters_there : got / 2 ≡ t → RunsElection ((line X v (Validates t)).fed got word).core t
      enters_there here = (
        X.started v.core.layout.senders v.core.me v.core.layout.rounds (row_at v.core.layout t),
        ap (λ b. (cond b (core_begun X v.core t) v.core).phase) (eq-eqb (got / 2) t here),
      )

      -- and else none
      enters_only_there : (u : ℕ) → RunsElection ((line X v (Validates t)).fed got word).core u
          → (u ≡ t) × (got / 2 ≡ t)
      enters_only_there u runs = by (got / 2 == t) refl runs.1 where
        by : (b : Bool) → (got / 2 == t) ≡ b
            → (cond b (core_begun X v.core t) v.core).phase ≡ Electing u runs.0
            → (u ≡ t) × (got / 2 ≡ t)
        by true same e = (sym (same_phase t u _ runs.0 e), eqb-true (got / 2) t same)
        by false same e = let bad = sym rests ∙ e in absurd cc

      seconds : EntersBy t
      seconds = subst (λ z. EntersIn z t) (sym i) (enters_there, enters_only_there)

    -- ---- a step of an election
    -- it goes on, or has chosen this sender, or its loss is told later
    elects_on : (t : ℕ) (e : E) → situation X v ≡ Does (Elects t e)
        → (v.reuse ≡ None → (o : ℕ) → X.owner (X.fed e got word) ≡ Some o → o ≡ v.core.me)
        → TellsNoMore X v got word
    elects_on t e i itself =
        quiet (Does (Elects t e)) i tt (λ u o w. loses u o v.reuse refl w) (λ u q. absurd cc)
        (λ q. absurd cc)
        (λ u q. absurd cc) (λ u p w. behind u p v.reuse w)
      where
        loses : (u : ℕ) (o : SenderNo) (reuse : Option Reuse) → v.reuse ≡ reuse
            → ¬ LosesBy X v got word u o reuse
        loses u o None q w =
            w.other (itself q o.0 (ap (λ y. X.owner (X.fed y got word))
            (same_step t u e w.election (sym i ∙ w.elects)) ∙ w.chosen))
        loses u o (Some r) q w =
            let bad =
            sym i ∙ ap (λ y. situation_by v.core.layout.passers y own) q
            ∙ unpins_by u (Some r) w.parts in
            cc

        behind : (u p : ℕ) (reuse : Option Reuse)
            → ¬ IsSomeAnd reuse (λ r. IsBehind X v got word u p r)
        behind u p None w = w
        behind u p (Some r) w =
            let bad =
            sym (ap held_of (tells X v.core (Elects t e) (own_is X v (Elects t e) i)).0) ∙ w.held in
            cc

    -- with each owner that it may have
    elects : (t : ℕ) (e : E) → situation X v ≡ Does (Elects t e) → (reuse : Option Reuse)
        → v.reuse ≡ reuse → (o : Option ℕ)
        → X.owner (X.fed e got word) ≡ o → FeedTells X v got word (answer_elected v.core reuse t o)
    elects t e i (Some r) q o chosen = elects_on t e i (λ none. let bad = sym none ∙ q in absurd cc)
    elects t e i None q None chosen =
        elects_on t e i (λ none o w. let bad = sym chosen ∙ w in absurd cc)
    elects t e i None q (Some o) chosen = by (o == v.core.me) refl where
      by : (b : Bool) → (o == v.core.me) ≡ b
          → FeedTells X v got word (cond b turn.Going (turn.Lost t record { 0 = o }))
      by true same =
          elects_on t e i (λ none p w. same_Some _ _ (sym w ∙ chosen) ∙ eqb-true o v.core.me same)
      by false other = subst (LosesBy X v got word t record { 0 = o }) (sym q)
          record { election = e; elects = i; chosen = chosen; other = eqb-false o v.core.me other }

    -- ---- the page goes back
    -- its frame stands in the log
    sent : (p : BatchPhase) → v.core.queue.phase ≡ p → (t : ℕ) → GivesReady X v t
        → HasPublished t v.core.phase
        → FeedTells X v got word (answer_sent v.core.queue t p)
    sent Open e t g w = record {
      gives = g;
      published = w;
      sends = ap is_marking e;
      first_is = refl;
      last_is = refl;
    }
    sent (Marking mark.End) e t g w =
        record { tenure = t; gives = g; why = inl (ap is_closing e, w) }
    sent (Marking mark.Leave) e t g w =
        record { gives = g; published = w; leaves = ap is_leaving e }
    sent Closed e t g w = record {
      gives = g;
      published = w;
      sends = ap is_marking e;
      first_is = refl;
      last_is = refl;
    }

    -- for each reason
    returned : (t : ℕ) (reason : Reason) → GivesReady X v t → Shows v.core t v.core.phase reason
        → FeedTells X v got word (answer_of_return v.core.queue t reason)
    returned t Sent g w = sent v.core.queue.phase refl t g w
    returned t FoundEnd g w = record { tenure = t; gives = g; why = inr w }
    returned t NoRoom g w = record { tenure = t; gives = g; lacks = w }

    -- the row of the next tenure is ready
    gives_ready : (t : ℕ) (z : Own E) → situation X v ≡ Does z → Returns t z
        → held_of v.core.phase ≡ Some t → GivesReady X v t
    gives_ready t z i w held =
        let s = situation_tells X v (Does z) i in
        let here = subst (Returns t) (sym s.0) w in
        record {
          does = i ∙ ap Does (sym s.0);
          returns = here;
          ready = row_ready width Belongs v.core v.reuse k t own here
              (λ reason e. tells X v.core (HasHanded t reason) e) held s.1;
        }

    -- ---- its presence is cleared
    parts : (t : ℕ) → situation X v ≡ Unpins t → (l : Option SenderNo) → lost_of v.reuse ≡ l
        → FeedTells X v got word (answer_of_loss t l)
    parts t i None e =
        quiet (Unpins t) i tt (λ u o w. loses u o v.reuse refl w)
        (λ u q. holds u v.reuse k (situation_tells X v (Unpins u) (i ∙ q)) e) (λ q. absurd cc)
        (λ u q. absurd cc)
        (unasked (Unpins t) i (λ rows p q. cc))
      where
        loses : (u : ℕ) (o : SenderNo) (reuse : Option Reuse) → v.reuse ≡ reuse
            → ¬ LosesBy X v got word u o reuse
        loses u o None q w = let bad = sym i ∙ w.elects in cc
        loses u o (Some r) q w = let bad = sym e ∙ ap lost_of q ∙ w.lost in cc

        holds : (u : ℕ) (reuse : Option Reuse) → ReuseKeeps width Belongs v.core reuse
            → IsSomeAnd reuse (λ r. r.pin ≡ Unpinning u)
            → lost_of reuse ≡ None → held_of v.core.phase ≡ Some u
        holds u None h p q = absurd p
        holds u (Some r) h p q =
            let kept : LostKeeps v.core.me v.core.phase r.pin None =
            subst (LostKeeps v.core.me v.core.phase r.pin) q h.lost in
            kept u p
    parts t i (Some o) e = by v.reuse k (situation_tells X v (Unpins t) i) e where
      by : (reuse : Option Reuse) → ReuseKeeps width Belongs v.core reuse
          → IsSomeAnd reuse (λ r. r.pin ≡ Unpinning t)
          → lost_of reuse ≡ Some o → LosesBy X v got word t o reuse
      by None h p q = absurd p
      by (Some r) h p q =
          let kept : LostKeeps v.core.me v.core.phase r.pin (Some o) =
          subst (LostKeeps v.core.me v.core.phase r.pin) q h.lost in
          record { parts = p; lost = q; other = kept.other }

    -- of a tenure that it came too late for
    late : (t : ℕ) → situation X v ≡ Withdraws t → IsSomeAnd v.reuse (λ r. IsInvalidated r)
    late t i =
        some_kept width Belongs v.core (λ r. r.pin ≡ Invalidated t) (λ r. IsInvalidated r) v.reuse k
        (λ r h e. record { tenure = t; is = e }) (situation_tells X v (Withdraws t) i)

    -- ---- a presence is asked
    -- who is behind, if presences are left to ask
    abbrev found_behind : Reclaiming → Bool → Option Behind
    found_behind s a =
        cond (a && (got == 1 + s.past)) (Some record { tenure = s.past; sender = s.scanned }) None

    module _ (s : Reclaiming) (i : situation X v ≡ Scans s) where
      -- one is left to ask
      left : s.scanned < s.senders
      left = by v.reuse (situation_tells X v (Scans s) i) where
        by : (reuse : Option Reuse) → SituationTells v.core.layout.passers (Scans s) reuse own
            → s.scanned < s.senders
        by None w = absurd w
        by (Some r) w = w.1

      -- the sender whose presence names the past tenure is behind
      names_past : got ≡ 1 + s.past
          → IsSomeAnd v.reuse (λ r. IsBehind X v got word s.past s.scanned r)
      names_past e =
          some_kept width Belongs v.core _ (λ r. IsBehind X v got word s.past s.scanned r) v.reuse k
          (λ r h w.
          let g = held_reclaimer width Belongs v.core r h s w.0.is in
          let from = g.after.presences in
          let many = g.after.senders in
          let place : s.presences + s.scanned
          ≡ presence_at (sizes_with v.core.layout r.rows) s.scanned = omega arith in
          record {
            loads =
                ap (λ y. (line X v y).op word) i ∙ ap (λ at. Some (Load record { 0 = at })) place;
            found = e;
            below = omega arith;
            tenure = g.tenure;
            held = g.held;
            past = g.after.past;
          })
          (situation_tells X v (Scans s) i)

      -- nobody else is
      passes : got ≢ 1 + s.past → (t p : ℕ) → ¬ IsSomeAnd v.reuse (λ r. IsBehind X v got word t p r)
      passes other t p w = by v.reuse k (situation_tells X v (Scans s) i) w where
        by : (reuse : Option Reuse) → ReuseKeeps width Belongs v.core reuse
            → SituationTells v.core.layout.passers (Scans s) reuse own
            → ¬ IsSomeAnd reuse (λ r. IsBehind X v got word t p r)
        by None h q w = w
        by (Some r) h q w =
            let g = held_reclaimer width Belongs v.core r h s q.0.is in
            let same : g.tenure ≡ w.tenure = same_Some _ _ (sym g.held ∙ w.held) in
            let mine = g.after.past in
            let its = w.past in
            let found = w.found in
            other (omega arith)

      -- and so it answers
      scans : FeedTells X v got word (answer_of_reclaim (behind_of s got))
      scans = subst (λ a. FeedTells X v got word (answer_of_reclaim (found_behind s a)))
          (sym (lt-ltb _ _ left)) (by (got == 1 + s.past) refl)
        where
          by : (b : Bool) → (got == 1 + s.past) ≡ b
              → FeedTells X v got word
              (answer_of_reclaim
              (cond b (Some record { tenure = s.past; sender = s.scanned }) None))
          by true e = names_past (eqb-true _ _ e)
          by false e = quiet (Scans s) i tt (lost_not (Scans s) i tt) (λ t q. absurd cc)
              (λ q. absurd cc) (λ t q. absurd cc)
              (passes (eqb-false _ _ e))

    -- a word of a row is cleared
    clears : (s : Reclaiming) → situation X v ≡ Clears s
        → FeedTells X v got word (answer_of_reclaim (behind_of s got))
    clears s i = subst (λ a. FeedTells X v got word (answer_of_reclaim (found_behind s a)))
        (sym (le-ltb _ _ (by v.reuse (situation_tells X v (Clears s) i))))
        (quiet (Clears s) i tt (lost_not (Clears s) i tt) (λ t q. absurd cc) (λ q. absurd cc)
        (λ t q. absurd cc)
        (unasked (Clears s) i (λ rows p q. cc)))
      where
        by : (reuse : Option Reuse) → SituationTells v.core.layout.passers (Clears s) reuse own
            → s.senders ≤ s.scanned
        by None w = absurd w
        by (Some r) w = w.1.passed

    -- ---- a passed place is loaded
    -- which lies behind all presences
    unpassed : (t : ℕ) (p : Passing) → situation X v ≡ ReadsPassed t p → (u q : ℕ)
        → ¬ IsSomeAnd v.reuse (λ r. IsBehind X v got word u q r)
    unpassed t p i u q = by v.reuse where
      by : (reuse : Option Reuse) → ¬ IsSomeAnd reuse (λ r. IsBehind X v got word u q r)
      by None w = w
      by (Some r) w =
          let loads : Load record {
            0 = passed_start v.core.layout v.reuse + PASSED_APART * p.loaded;
          } ≡ Load record { 0 = presence_at (sizes_with v.core.layout r.rows) q } =
          same_Some _ _ (sym (ap (λ y. (line X v y).op word) i) ∙ w.loads) in
          let behind = passed_behind X v t p i in
          let same = ap register loads in
          let below = w.below in
          omega arith

    -- ---- each situation
    by_situation : ChoosesItself X v.core → (z : Situation E) → situation X v ≡ z
        → IsSome ((line X v z).op word)
        → FeedTells X v got word ((line X v z).answer got word)
    by_situation itself (Does IsClosed) i h = absurd (let q : false ≡ true = h in cc)
    by_situation itself (Does IsIdle) i h = absurd (let q : false ≡ true = h in cc)
    by_situation itself (Does IsSpent) i h = absurd (let q : false ≡ true = h in cc)
    by_situation itself (Does LooksAtStage) i h =
        looks i (waits v.core got) (nat_le v.core.layout.rows (got / 2)) refl refl
    by_situation itself (Does (Elects t e)) i h =
        elects t e i v.reuse refl (X.owner (X.fed e got word)) refl
    by_situation itself (Does (TakesPage t)) i h =
        let c = itself t (own_is X v (TakesPage t) i) in
        record {
          pinned = stands_in width Belongs v.core v.reuse k t c.0 c.1;
          election = c.0;
          elects = c.1;
          chosen = c.2;
        }
    by_situation itself (Does (AwaitsPage t)) i h = absurd (let q : false ≡ true = h in cc)
    by_situation itself (Does (StoresWord t page stored)) i h =
        let z = Does (StoresWord t page stored) in
        quiet z i tt (lost_not z i tt) (λ u q. absurd cc) (λ q. absurd cc) (λ u q. absurd cc)
        (unasked z i (λ rows p q. cc))
    by_situation itself (Does (StoresLength t page stored)) i h =
        let z = Does (StoresLength t page stored) in
        quiet z i tt (lost_not z i tt) (λ u q. absurd cc) (λ q. absurd cc) (λ u q. absurd cc)
        (unasked z i (λ rows p q. cc))
    by_situation itself (Does (GivesBack t page reason)) i h =
        let here = own_is X v (GivesBack t page reason) i in
        let at = (tells X v.core (GivesBack t page reason) here).2 in
        returned t reason
        (gives_ready t (GivesBack t page reason) i (Gives page reason) (ap held_of at))
        (gives_shows X v.core t page reason here)
    by_situation itself (Does (HasHanded t reason)) i h =
        let at = tells X v.core (HasHanded t reason) (own_is X v (HasHanded t reason) i) in
        returned t reason (gives_ready t (HasHanded t reason) i (Says reason) (ap held_of at))
        (subst (λ p. Shows v.core t p reason) (sym at) (shown_handed v.core t reason))
    by_situation itself (Announces t) i h =
        quiet (Announces t) i tt (lost_not (Announces t) i tt) (λ u q. absurd cc) (λ q. absurd cc)
        (λ u q. absurd cc)
        (unasked (Announces t) i (λ rows p q. cc))
    by_situation itself (Validates t) i h =
        quiet (Validates t) i tt (lost_not (Validates t) i tt) (λ u q. absurd cc) (λ q. absurd cc)
        (λ u q. subst EntersBy (same_look t u q) (seconds t i))
        (unasked (Validates t) i (λ rows p q. let n = ap register (same_Some _ _ q) in omega arith))
    by_situation itself (Unpins t) i h = parts t i (lost_of v.reuse) refl
    by_situation itself (Withdraws t) i h = inr (late t i)
    by_situation itself (Scans s) i h = scans s i
    by_situation itself (Clears s) i h = clears s i
    by_situation itself (ReadsPassed t p) i h =
        let z = ReadsPassed t p in
        quiet z i tt (lost_not z i tt) (λ u q. absurd cc) (λ q. absurd cc) (λ u q. absurd cc)
        (λ u q. unpassed t p i u q)

-- the one that it is in
pub line_told : {E : Type 0} (X : Election E) (width : ℕ) (Belongs : ℕ → E → Type 0) (v : Sender E)
    (got word : ℕ)
    → ReuseKeeps width Belongs v.core v.reuse → ChoosesItself X v.core
    → IsSome ((line_now X v).op word)
    → FeedTells X v got word ((line_now X v).answer got word)
line_told X width Belongs v got word k itself h =
    by_situation X v got word width Belongs k itself (situation X v) refl h

-- what the answer tells where no step is due: Going where a page is to be laid
pub rest_told : {E : Type 0} (X : Election E) (width : ℕ) (Belongs : ℕ → E → Type 0) (v : Sender E)
    → ReuseKeeps width Belongs v.core v.reuse → RestIsTold X v (rest_at (line_now X v))
rest_told {E} X width Belongs v k = by (situation X v) refl where
  by : (z : Situation E) → situation X v ≡ z
      → ((rest_at (line X v z) ≡ turn.Going)
      × (IsSome (line X v z).kind ⊎ (HasElection v.core.phase ⊎ AwaitsItsPage v.core.phase)))
      ⊎ RestTells v (rest_at (line X v z))
  by (Does IsClosed) i = inr (rests_closed X v width Belongs k i)
  by (Does IsIdle) i = inr (rests_idle X v width Belongs k i)
  by (Does IsSpent) i = inr (rests_spent X v width Belongs k i)
  by (Does LooksAtStage) i = inl (refl, inl refl)
  by (Does (Elects t e)) i =
      let at = (tells X v.core (Elects t e) (own_is X v (Elects t e) i)).0 in
      inl (refl, inr (inl record { tenure = t; election = e; is = at }))
  by (Does (TakesPage t)) i = inl (refl, inl refl)
  by (Does (AwaitsPage t)) i = inl (
    refl,
    inr (inr record {
      tenure = t;
      is = tells X v.core (AwaitsPage t) (own_is X v (AwaitsPage t) i);
    }),
  )
  by (Does (StoresWord t page stored)) i = inl (refl, inl refl)
  by (Does (StoresLength t page stored)) i = inl (refl, inl refl)
  by (Does (GivesBack t page reason)) i = inl (refl, inl refl)
  by (Does (HasHanded t reason)) i = inl (refl, inl refl)
  by (Announces t) i = inl (refl, inl refl)
  by (Validates t) i = inl (refl, inl refl)
  by (Unpins t) i = inl (refl, inl refl)
  by (Withdraws t) i = inl (refl, inl refl)
  by (Scans s) i = inl (refl, inl refl)
  by (Clears s) i = inl (refl, inl refl)
  by (ReadsPassed t p) i = inl (refl, inl refl)
