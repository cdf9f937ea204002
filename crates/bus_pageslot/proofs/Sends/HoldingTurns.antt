-- A holder's turn takes one of the turns that are left of its tenure, also where it makes the next
-- row ready; and by the table, so does any turn of a tenure that is begun.
use Rattle.std.proofs.Common.{◌≡◌, ℕ, ◌+◌, ◌-◌, ◌<◌, ◌≤◌, ◌⊎◌, inl, inr, Bool, true, false, cond}
use Rattle.std.proofs.Common.{Option, Some, None, IsSome, IsSomeAnd, nat_lt, ◌==◌, arith, refl}
use Rattle.std.proofs.Common.{sym, ◌∙◌, ap, subst, is_some}
use Rattle.std.proofs.lemmas.Bool.{true≢false, ltb-true, lt-ltb, le-ltb}
use Rattle.std.proofs.lemmas.Grind.{common_steps}
use Rattle.bus_register.specs.declared.kinds.Kind.TheVariants as kind
use Rattle.bus_batch.specs.Batches.{Pending}
use Rattle.bus_presence.specs.Reclaimers.{Reclaiming, IsClearing, reclaim_fed, behind_of}
use Rattle.bus_tenure.specs.Core.{Core, Election}
use Rattle.bus_tenure.specs.Seen.{HasElection, turns_of, tenure_of, is_holding}
use Rattle.bus_tenure.specs.Situations.{Situation as Own, IsClosed, IsIdle, IsSpent, LooksAtStage}
use Rattle.bus_tenure.specs.Situations.{Elects, TakesPage, AwaitsPage, StoresWord, StoresLength}
use Rattle.bus_tenure.specs.Situations.{GivesBack, HasHanded, situation_of, core_at_rest}
use Rattle.bus_tenure.specs.Situations.{answer_of_return, Comes, core_floored}
use Rattle.bus_tenure.specs.declared.pages.Page.{Page}
use Rattle.bus_tenure.specs.declared.phases.Phase.TheVariants.{Resting, Electing, Holding}
use Rattle.bus_tenure.specs.declared.phases.Reason.{Reason}
use Rattle.bus_tenure.specs.declared.phases.Reason.TheVariants.{Sent, FoundEnd, NoRoom}
use Rattle.bus_tenure.specs.declared.turns.Turn.{Turn}
use Rattle.bus_tenure.specs.declared.turns.Turn.TheVariants as turn
use Rattle.bus_tenure.proofs.Situated.{tells}
use Rattle.bus_core.specs.Keeping.{IsAway, sender}
use Rattle.bus_core.specs.Reusing.Turns.{answer_of_reclaim}
use Rattle.bus_core.specs.Seen.{tenure_begun}
use Rattle.bus_core.specs.Senders.{Sender, Situation, Does, Announces, Validates, Unpins, Withdraws}
use Rattle.bus_core.specs.Senders.{Scans, Clears, ReadsPassed, situation, participant_of}
use Rattle.bus_core.specs.Table.{line, line_now, reuse_given, reuse_passed, reuse_reclaiming}
use Rattle.bus_core.specs.Telling.{FeedTells, HasBegunNone}
use Rattle.bus_core.specs.declared.reuses.Reuse.{Reuse}
use Rattle.bus_core.proofs.Situated.{IsCalm, Passes, Reclaims, situation_tells, own_is}
use Rattle.bus_core.specs.Reusing.Passing.{core_passed, passing_fed}
use Rattle.bus_core.specs.declared.reuses.Passing.{Passing}
use Rattle.bus_machine.specs.Machine.{moved}
use Rattle.bus_world.specs.Turning.{after_step}
use Rattle.bus_register.specs.declared.registers.Op.{Op}
use Rattle.bus_core.specs.Causes.{LeavesTenure}
use Rattle.bus_core.specs.Places.{LiesAt, StandsIn}
use Rattle.bus_register.specs.Words.{register}
use Rattle.bus_pageslot.specs.Finishing.{turns_to_return, turns_in, turns_to_finish, ends_tenure}
use Rattle.bus_pageslot.specs.Finishing.{StaysOrEnds}
use Rattle.bus_pageslot.proofs.Sends.TurnsLeft as turns
use Rattle.bus_pageslot.proofs.Sends.TurnsLeft.{none_begun, stands, announces, validates, unpins}
use Rattle.bus_pageslot.proofs.Sends.TurnsLeft.{withdraws, elects, takes}

module _ {E : Type 0} (X : Election E) where
  abbrev IsTurn : Sender E → Turn → Sender E → Type 0
  IsTurn = turns.IsTurn X

  falls_some : (v w : Sender E) (a : Turn) → turns_to_finish X w < turns_to_finish X v
      → StaysOrEnds v a w → IsTurn v a w
  falls_some = turns.falls_some X

  -- ---- a holder
  module _ (c : Core E) (t : ℕ) (page : Page) (stored : ℕ)
      (at : c.phase ≡ Holding t page stored false)
    where
      -- a word or the length: less is left to store
      stores : (r : Option Reuse) (more : ℕ) (published : Bool) → IsAway r
          → turns_to_return c more published < turns_to_return c stored false
          → IsTurn (sender c r) turn.Going
          (sender (record c { phase = Holding t page more published }) r)
      stores None more published away less = grind (arith, common_steps, falls_some)
      stores (Some r) more published away less = grind (arith, common_steps, falls_some, stands)

  -- what is due of a holder that stores, and how much less is left then
  abbrev LessLeft : Core E → Own E → Type 0
  LessLeft c (StoresWord t page stored) =
      (c.phase ≡ Holding t page stored false)
      × (turns_to_return c (stored + 1) false < turns_to_return c stored false)
  LessLeft c (StoresLength t page stored) =
      (c.phase ≡ Holding t page stored false)
      × (turns_to_return c stored true < turns_to_return c stored false)
  LessLeft c z = Unit {0}

  less_left : (c : Core E) (z : Own E) → situation_of X c ≡ z → LessLeft c z
  less_left c z i = grind (arith, common_steps, nat_lt, ltb-true, is_some)

  -- the page is given back
  answer_ends : (q : Pending) (t : ℕ) (reason : Reason)
      → ends_tenure (answer_of_return q t reason) ≡ true
  answer_ends q t Sent = grind (arith, common_steps)
  answer_ends q t FoundEnd = refl
  answer_ends q t NoRoom = refl

  returns : (c : Core E) (t : ℕ) (reason : Reason) (r : Option Reuse) → IsAway r
      → 1 ≤ turns_in X c r c.phase
      → IsTurn (sender c r) (answer_of_return c.queue t reason)
      (sender (core_at_rest c reason t) (reuse_given r))
  returns c t reason None away held = grind (arith, common_steps, falls_some, answer_ends)
  returns c t reason (Some r) away held = grind (arith, common_steps, falls_some, answer_ends)

  -- ---- the next row
  -- one presence less, but where another sender is in the way
  scanned : (c : Core E) (r : Reuse) (s : Reclaiming) (got : ℕ) (left behind : Bool)
      → r.reclaimer ≡ Some s → nat_lt s.scanned s.senders ≡ true
      → (got == 1 + s.past) ≡ behind → IsSome (tenure_of c.phase) → is_holding c.phase ≡ true
      → 1 ≤ turns_in X c (Some r) c.phase
      → IsTurn (sender c (Some r)) (answer_of_reclaim (behind_of s got))
      (sender c (Some record r { reclaimer = Some (reclaim_fed s got) }))
  scanned c r s got left true is l b some holds held =
      grind (arith, common_steps, true≢false, stands)
  scanned c r s got left false is l b some holds held =
      grind (arith, common_steps, nat_lt, ltb-true, falls_some, stands)

  clears : (c : Core E) (r : Reuse) (s : Reclaiming) (got : ℕ) → r.reclaimer ≡ Some s → IsClearing s
      → IsSome (tenure_of c.phase) → is_holding c.phase ≡ true
      → IsTurn (sender c (Some r)) (answer_of_reclaim (behind_of s got))
      (sender c (Some record r { reclaimer = Some (reclaim_fed s got) }))
  clears c r s got is h some holds =
      grind (arith, common_steps, nat_lt, le-ltb, lt-ltb, falls_some, stands)

  -- a passed place is loaded, and is the last or not
  passes_at : (c : Core E) (r : Reuse) (t : ℕ) (page : Page) (stored : ℕ) (published : Bool)
      (q : Passing) (last : Bool) → c.phase ≡ Holding t page stored published → IsCalm r.pin
      → r.passed.loaded < c.layout.passers → q.loaded ≡ r.passed.loaded + 1
      → IsTurn (sender c (Some r)) turn.Going
      (sender (cond last (core_floored c q.least) c) (Some record r { passed = q }))
  passes_at c r t page stored published q false at calm less next =
      grind (arith, common_steps, falls_some, stands, is_some)
  passes_at c r t page stored published q true at calm less next =
      grind (arith, common_steps, falls_some, stands, is_some)

  passes : (c : Core E) (r : Option Reuse) (t : ℕ) (p : Passing) (got : ℕ)
      → IsSomeAnd r (λ y. Passes c.layout.passers y (situation_of X c) t p)
      → IsTurn (sender c r) turn.Going
      (sender (core_passed c (passing_fed p got)) (reuse_passed r (passing_fed p got)))
  passes c None t p got h = absurd h
  passes c (Some r) t p got h = grind (arith, common_steps, tells, passes_at)

  -- what a holder has left
  held_left : (c : Core E) (r : Option Reuse) (t : ℕ) (page : Page) (stored : ℕ) (published : Bool)
      → c.phase ≡ Holding t page stored published → 1 ≤ turns_in X c r c.phase
  held_left c r t page stored true e = let is = ap (turns_in X c r) e in omega arith
  held_left c r t page stored false e = let is = ap (turns_in X c r) e in omega arith

  -- of one that makes the next row ready
  reclaims : (c : Core E) (r : Reuse) (s : Reclaiming) (got : ℕ) → Reclaims r (situation_of X c) s
      → (s.scanned < s.senders) ⊎ IsClearing s
      → IsTurn (sender c (Some r)) (answer_of_reclaim (behind_of s got))
      (sender c (Some record r { reclaimer = Some (reclaim_fed s got) }))
  reclaims c r s got h due =
      grind (arith, common_steps, tells, is_some, held_left, scanned, lt-ltb, clears)

  reclaims_by : (c : Core E) (r : Option Reuse) (s : Reclaiming) (got : ℕ)
      → IsSomeAnd r (λ y. Reclaims y (situation_of X c) s
      × ((s.scanned < s.senders) ⊎ IsClearing s))
      → IsTurn (sender c r) (answer_of_reclaim (behind_of s got))
      (sender c (reuse_reclaiming r (reclaim_fed s got)))
  reclaims_by c None s got h = absurd h
  reclaims_by c (Some r) s got h = reclaims c r s got h.0 h.1

  asks_by : (z : Own E) (r : Option Reuse) (s : Reclaiming)
      → IsSomeAnd r (λ y. Reclaims y z s × (s.scanned < s.senders))
      → IsSomeAnd r (λ y. Reclaims y z s × ((s.scanned < s.senders) ⊎ IsClearing s))
  asks_by z None s h = h
  asks_by z (Some r) s h = (h.0, inl h.1)

  clears_by : (z : Own E) (r : Option Reuse) (s : Reclaiming)
      → IsSomeAnd r (λ y. Reclaims y z s × IsClearing s)
      → IsSomeAnd r (λ y. Reclaims y z s × ((s.scanned < s.senders) ⊎ IsClearing s))
  clears_by z None s h = h
  clears_by z (Some r) s h = (h.0, inr h.1)

  -- ---- by the table
  module _ (v : Sender E) (home : Option Page) (got word : ℕ) (begun : IsSome (tenure_begun v))
      (running : HasElection v.core.phase → 1 ≤ turns_of X v.core.phase)
      (looks : (line_now X v).kind ≡ Some kind.LoadStage → HasBegunNone v)
      (gives : (line_now X v).kind ≡ Some kind.GivePageBack → IsAway v.reuse)
      (again : (line_now X v).kind ≡ Some kind.LoadStageAgain → v.core.phase ≡ Resting)
      (leaves : (line_now X v).kind ≡ Some kind.Withdraw
      → IsSomeAnd v.reuse (λ r. LeavesTenure (participant_of v.core r)))
      (stores_away : (line_now X v).kind ≡ Some kind.StoreLogWord → IsAway v.reuse)
      (ends_away : (line_now X v).kind ≡ Some kind.StoreLength → IsAway v.reuse)
      (inside : (o : Op) → (line_now X v).op word ≡ Some o
      → LiesAt v (situation X v) (register o))
      (fall : (e : E) → X.turns_left (X.fed e got word) ≡ X.turns_left e - 1) where
    abbrev After : Situation E → Sender E
    After z = moved (after_step (line X v z).move) home ((line X v z).fed got word)

    -- a step in this situation, with the page at home where it takes that
    abbrev Claim : Situation E → Type 0
    Claim z =
        IsSome ((line X v z).op word)
        → ((t : ℕ) → (line X v z).move ≡ Comes t → (page : Page) × (home ≡ Some page))
        → FeedTells X v got word ((line X v z).answer got word)
        → IsTurn v ((line X v z).answer got word) (After z)

    runs : (t : ℕ) (e : E) → v.core.phase ≡ Electing t e → 1 ≤ X.turns_left e
    runs t e at = grind (arith, common_steps)

    away : (z : Situation E) → situation X v ≡ z → (line X v z).kind ≡ Some kind.GivePageBack
        → IsAway v.reuse
    away z i k = gives (ap (λ y. (line X v y).kind) i ∙ k)

    lies : (z : Situation E) → situation X v ≡ z → (o : Op) → (line X v z).op word ≡ Some o
        → LiesAt v z (register o)
    lies z i o e = subst (λ y. LiesAt v y (register o)) i
        (inside o (ap (λ y. (line X v y).op word) i ∙ e))

    -- who is in an election stands in its tenure
    elects_inside : (t : ℕ) (e : E) → situation X v ≡ Does (Elects t e) → (o : Option Op)
        → (line X v (Does (Elects t e))).op word ≡ o → IsSome o → StandsIn v.reuse t
    elects_inside t e i None same due = absurd (true≢false (sym due))
    elects_inside t e i (Some o) same due = (lies (Does (Elects t e)) i o same).1

    at : (z : Situation E) → situation X v ≡ z → Claim z
    at (Does IsClosed) i due taken told = absurd (true≢false (sym due))
    at (Does IsIdle) i due taken told = absurd (true≢false (sym due))
    at (Does IsSpent) i due taken told = absurd (true≢false (sym due))
    at (Does (AwaitsPage t)) i due taken told = absurd (true≢false (sym due))
    at (Does LooksAtStage) i due taken told = grind (arith, none_begun, true≢false, is_some)
    at (Does (Elects t e)) i due taken told =
        let own = tells X v.core (Elects t e) (own_is X v (Elects t e) i) in
        elects X v.core t e (X.fed e got word) own.0 (runs t e own.0) (fall e) v.reuse
        (X.owner (X.fed e got word)) (elects_inside t e i _ refl due)
    at (Does (TakesPage t)) i due taken told =
        grind (arith, common_steps, tells, own_is, takes, runs, lies)
    at (Does (StoresWord t page stored)) i due taken told =
        grind (arith, common_steps, less_left, own_is, stores)
    at (Does (StoresLength t page stored)) i due taken told =
        grind (arith, common_steps, less_left, own_is, stores)
    at (Does (GivesBack t page reason)) i due taken told =
        grind (arith, common_steps, tells, own_is, returns, away, held_left)
    at (Does (HasHanded t reason)) i due taken told =
        grind (arith, common_steps, tells, own_is, returns, away)
    at (Announces t) i due taken told =
        announces X v.core v.reuse t (situation_tells X v (Announces t) i)
    at (Validates t) i due taken told = grind (arith, common_steps, validates, situation_tells)
    at (Unpins t) i due taken told = grind (arith, common_steps, unpins, situation_tells)
    at (Withdraws t) i due taken told = grind (arith, common_steps, withdraws, situation_tells)
    at (Scans s) i due taken told =
        reclaims_by v.core v.reuse s got
        (asks_by (situation_of X v.core) v.reuse s (situation_tells X v (Scans s) i))
    at (Clears s) i due taken told =
        reclaims_by v.core v.reuse s got
        (clears_by (situation_of X v.core) v.reuse s (situation_tells X v (Clears s) i))
    at (ReadsPassed t p) i due taken told =
        passes v.core v.reuse t p got (situation_tells X v (ReadsPassed t p) i)

    pub turn_begun : Claim (situation X v)
    turn_begun = at (situation X v) refl
