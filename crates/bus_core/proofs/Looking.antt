-- A sender that has begun no tenure, by what it holds: whether it looks at the stage, and why it
-- has nothing to do.
use Rattle.std.specs.Prelude.{◌⊎◌, ◌≢◌}
use Rattle.std.proofs.Common.{◌≡◌, inl, inr, ℕ, ◌/◌, ◌%◌, ◌<◌, ◌≤◌, Bool, true, false, cond, List}
use Rattle.std.proofs.Common.{[], ◌∷◌, length, nat_lt, nat_le, ◌==◌, ◌&&◌, refl, sym, ◌∙◌, ap}
use Rattle.std.proofs.Common.{subst, arith}
use Rattle.std.proofs.lemmas.Bool.{leb-true, lt-leb, ltb-true, ltb-false, lt-ltb, eqb-true}
use Rattle.std.proofs.lemmas.Bool.{eqb-false, ne_eqb, true≢false}
use Rattle.bus_batch.specs.declared.batches.Phase.{Phase as BatchPhase}
use Rattle.bus_batch.specs.declared.batches.Phase.TheVariants.{Open, Marking, Closed}
use Rattle.bus_batch.specs.declared.messages.Mark.{Mark}
use Rattle.bus_tenure.specs.Core.{Core, Election, is_empty, is_marking, is_closed}
use Rattle.bus_tenure.specs.Situations.{Situation as Own, IsClosed, IsIdle, IsSpent, LooksAtStage}
use Rattle.bus_tenure.specs.Situations.{situation_at, situation_of as own_situation, waits}
use Rattle.bus_tenure.specs.declared.phases.Phase.TheVariants.{Resting}
use Rattle.bus_tenure.proofs.Situated.{tells}
use Rattle.bus_core.specs.Keeping.{ReuseKeeps, IsAway}
use Rattle.bus_core.specs.Reusing.Keeping.{IsOutside}
use Rattle.bus_core.specs.Senders.{Sender, Does, situation_by, situation}
use Rattle.bus_core.specs.Telling.{HasBegunNone, LooksFirst, RestsIdle, RestsClosed, RestsSpent}
use Rattle.bus_core.proofs.Caused.{looks_cause}
use Rattle.bus_core.proofs.Situated.{situation_tells, own_is, goes_away, away_does}

-- ---- what waits in its batch, and whether a tenure is left
abbrev rest_by : {E : Type 0} → BatchPhase → List (List ℕ) → Bool → Own E
rest_by p ms b = cond (is_closed p) IsClosed
    (cond (is_empty ms && cond (is_marking p) false true) IsIdle (cond b IsSpent LooksAtStage))

module _ {E : Type 0} where
  -- who has something to send looks where a tenure is left
  looks_where : (p : BatchPhase) (ms : List (List ℕ)) (b : Bool) → p ≢ Closed
      → (0 < length ms) ⊎ ((m : Mark) × (p ≡ Marking m)) → b ≡ false
      → rest_by {E = E} p ms b ≡ LooksAtStage
  looks_where Closed ms b opened some left = absurd (opened refl)
  looks_where Open [] b opened (inl some) left = absurd (omega arith)
  looks_where Open [] b opened (inr marked) left = absurd (let e = marked.1 in cc)
  looks_where Open (m ∷ ms) b opened some left = ap (λ d. cond d IsSpent LooksAtStage) left
  looks_where (Marking k) [] b opened some left = ap (λ d. cond d IsSpent LooksAtStage) left
  looks_where (Marking k) (m ∷ ms) b opened some left = ap (λ d. cond d IsSpent LooksAtStage) left

  -- who is idle has nothing
  idle_by : (p : BatchPhase) (ms : List (List ℕ)) (b : Bool) → rest_by {E = E} p ms b ≡ IsIdle
      → (p ≡ Open) × (ms ≡ [])
  idle_by Open [] b i = (refl, refl)
  idle_by Open (m ∷ ms) true i = absurd cc
  idle_by Open (m ∷ ms) false i = absurd cc
  idle_by (Marking k) [] true i = absurd cc
  idle_by (Marking k) [] false i = absurd cc
  idle_by (Marking k) (m ∷ ms) true i = absurd cc
  idle_by (Marking k) (m ∷ ms) false i = absurd cc
  idle_by Closed ms b i = absurd cc

  -- who is closed is so by its batch
  closed_by : (p : BatchPhase) (ms : List (List ℕ)) (b : Bool) → rest_by {E = E} p ms b ≡ IsClosed
      → p ≡ Closed
  closed_by Open [] b i = absurd cc
  closed_by Open (m ∷ ms) true i = absurd cc
  closed_by Open (m ∷ ms) false i = absurd cc
  closed_by (Marking k) [] true i = absurd cc
  closed_by (Marking k) [] false i = absurd cc
  closed_by (Marking k) (m ∷ ms) true i = absurd cc
  closed_by (Marking k) (m ∷ ms) false i = absurd cc
  closed_by Closed ms b i = refl

  -- to whom no tenure is left has something to send
  spent_by : (p : BatchPhase) (ms : List (List ℕ)) (b : Bool) → rest_by {E = E} p ms b ≡ IsSpent
      → (p ≢ Closed) × ((0 < length ms) ⊎ ((m : Mark) × (p ≡ Marking m))) × (b ≡ true)
  spent_by Open [] b i = absurd cc
  spent_by Open (m ∷ ms) true i = ((λ e. cc), inl (omega arith), refl)
  spent_by Open (m ∷ ms) false i = absurd cc
  spent_by (Marking k) [] true i = ((λ e. cc), inr (k, refl), refl)
  spent_by (Marking k) [] false i = absurd cc
  spent_by (Marking k) (m ∷ ms) true i = ((λ e. cc), inr (k, refl), refl)
  spent_by (Marking k) (m ∷ ms) false i = absurd cc
  spent_by Closed ms b i = absurd cc

-- ---- the stage that it found
-- of a held tenure, or of one that it may not enter any more
pub vain_of : {E : Type 0} (c : Core E) (got : ℕ) → waits c got ≡ true
    → (got % 2 ≡ 1) ⊎ (got / 2 < c.least)
vain_of c got e = by (got % 2 == 0) refl e where
  by : (b : Bool) → (got % 2 == 0) ≡ b → cond b (nat_lt (got / 2) c.least) true ≡ true
      → (got % 2 ≡ 1) ⊎ (got / 2 < c.least)
  by true i h = inr (ltb-true _ _ h)
  by false i h = let odd : got % 2 ≢ 0 = eqb-false (got % 2) 0 i in inl (omega arith)

-- and back
pub waits_of : {E : Type 0} (c : Core E) (got : ℕ) → (got % 2 ≡ 1) ⊎ (got / 2 < c.least)
    → waits c got ≡ true
waits_of c got (inl odd) =
    ap (λ b. cond b (nat_lt (got / 2) c.least) true) (ne_eqb (got % 2) 0 (λ e. omega arith))
waits_of c got (inr below) = by (got % 2 == 0) where
  by : (b : Bool) → cond b (nat_lt (got / 2) c.least) true ≡ true
  by true = lt-ltb _ _ below
  by false = refl

-- of an open tenure that it may enter
pub opened_of : {E : Type 0} (c : Core E) (got : ℕ) → waits c got ≡ false
    → (got % 2 ≡ 0) × (c.least ≤ got / 2)
opened_of c got e = by (got % 2 == 0) refl e where
  by : (b : Bool) → (got % 2 == 0) ≡ b → cond b (nat_lt (got / 2) c.least) true ≡ false
      → (got % 2 ≡ 0) × (c.least ≤ got / 2)
  by true i h = (eqb-true (got % 2) 0 i, ltb-false _ _ h)
  by false i h = absurd (true≢false h)

module _ {E : Type 0} (X : Election E) (v : Sender E) where
  -- a phase that rests has the situation of rest
  rest_is : (z : Own E) → v.core.phase ≡ Resting → own_situation X v.core ≡ z
      → rest_by v.core.queue.phase v.core.queue.messages (nat_le v.core.layout.rows v.core.least)
      ≡ z
  rest_is z rests i = sym (ap (situation_at X v.core) rests) ∙ i

  -- who is closed is so by its batch
  pub closed_at : own_situation X v.core ≡ IsClosed → v.core.queue.phase ≡ Closed
  closed_at own = closed_by {E = E} _ _ _ (rest_is IsClosed (tells X v.core IsClosed own) own)

  -- to whom no tenure is left enters none of the bus
  pub spent_at : own_situation X v.core ≡ IsSpent → v.core.layout.rows ≤ v.core.least
  spent_at own =
      leb-true _ _ (spent_by {E = E} _ _ _ (rest_is IsSpent (tells X v.core IsSpent own) own)).2

  -- who has something to send, and a tenure left to enter, looks at the stage
  pub first_looks : LooksFirst v → situation X v ≡ Does LooksAtStage
  first_looks w =
      let l = w.looks in
      let left = l.tenure_left in
      let own : own_situation X v.core ≡ LooksAtStage =
      ap (situation_at X v.core) l.rests
      ∙ looks_where v.core.queue.phase v.core.queue.messages
      (nat_le v.core.layout.rows v.core.least) l.not_closed l.something
      (lt-leb _ _ left) in
      ap (situation_by v.core.layout.passers v.reuse) own
      ∙ away_does v.core.layout.passers v.reuse LooksAtStage w.away (λ l s. refl)

  module _ (width : ℕ) (Belongs : ℕ → E → Type 0)
      (k : ReuseKeeps width Belongs v.core v.reuse) where
    -- who goes on at rest as a sender in its turns pins none
    away_of : (z : Own E) → v.core.phase ≡ Resting → situation X v ≡ Does z → IsAway v.reuse
    away_of z rests i = goes_away width Belongs v.core v.reuse k (subst IsOutside (sym rests) tt) _
        (situation_tells X v (Does z) i).1

    -- who looks at the stage has something to send, and a tenure left to enter
    pub looks_first : situation X v ≡ Does LooksAtStage → LooksFirst v
    looks_first i =
        let l = looks_cause X v.core (own_is X v LooksAtStage i) in
        record { away = away_of LooksAtStage l.rests i; looks = l }

    -- who has nothing to do has begun no tenure
    begun_none : (z : Own E) → v.core.phase ≡ Resting → situation X v ≡ Does z → HasBegunNone v
    begun_none z rests i = record { rests = rests; away = away_of z rests i }

    -- it is idle
    pub rests_idle : situation X v ≡ Does IsIdle → RestsIdle v
    rests_idle i =
        let own = own_is X v IsIdle i in
        let rests = tells X v.core IsIdle own in
        let w = idle_by {E = E} _ _ _ (rest_is IsIdle rests own) in
        record { none = begun_none IsIdle rests i; is_open = w.0; nothing = w.1 }

    -- or closed
    pub rests_closed : situation X v ≡ Does IsClosed → RestsClosed v
    rests_closed i =
        let own = own_is X v IsClosed i in
        let rests = tells X v.core IsClosed own in
        record {
          none = begun_none IsClosed rests i;
          closed = closed_by {E = E} _ _ _ (rest_is IsClosed rests own);
        }

    -- or no tenure is left to it
    pub rests_spent : situation X v ≡ Does IsSpent → RestsSpent v
    rests_spent i =
        let own = own_is X v IsSpent i in
        let rests = tells X v.core IsSpent own in
        let w = spent_by {E = E} _ _ _ (rest_is IsSpent rests own) in
        record {
          none = begun_none IsSpent rests i;
          not_closed = w.0;
          something = w.1;
          past = leb-true _ _ w.2;
        }
