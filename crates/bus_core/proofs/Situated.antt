-- What the situation of a sender tells.
use Rattle.std.specs.Prelude.{◌⊎◌}
use Rattle.std.proofs.Common.{◌≡◌, inl, inr, ℕ, ◌+◌, ◌<◌, ◌≤◌, Bool, true, false, cond, Option}
use Rattle.std.proofs.Common.{Some, None, IfSome, IsSomeAnd, nat_lt, arith, refl, sym, ◌∙◌, ap}
use Rattle.std.proofs.Common.{subst}
use Rattle.std.proofs.lemmas.Bool.{ltb-true, ltb-false, lt-ltb, le-ltb, true≢false}
use Rattle.bus_presence.specs.Reclaimers.{Reclaiming, IsClearing, is_reclaimed, reclaim_fed}
use Rattle.bus_presence.specs.Reclaimers.{behind_of}
use Rattle.bus_presence.specs.declared.pins.Pin.{Pin}
use Rattle.bus_presence.specs.declared.pins.Pin.TheVariants.{Away, Announcing, Validating, Pinned}
use Rattle.bus_presence.specs.declared.pins.Pin.TheVariants.{Unpinning, Invalidated}
use Rattle.bus_tenure.specs.Core.{Core, Election}
use Rattle.bus_tenure.specs.Situations.{Situation as Own, GivesBack, HasHanded}
use Rattle.bus_tenure.specs.Situations.{situation_of as own_situation}
use Rattle.bus_tenure.specs.declared.doings.Doing.{Doing}
use Rattle.bus_tenure.specs.declared.pages.Page.{Page}
use Rattle.bus_tenure.specs.declared.phases.Phase.TheVariants.{Electing, Giving}
use Rattle.bus_tenure.specs.declared.phases.Reason.{Reason}
use Rattle.bus_tenure.specs.declared.phases.Reason.TheVariants.{Sent, FoundEnd, NoRoom}
use Rattle.bus_core.specs.Doings.{step_of, asks_first}
use Rattle.bus_tenure.specs.Doings.{doing_of}
use Rattle.bus_core.specs.Keeping.{ReuseKeeps, IsAway, reclaimer_in}
use Rattle.bus_core.specs.Reusing.Turns.{answer_of_reclaim}
use Rattle.bus_core.specs.Table.{line, line_now, reuse_reclaiming}
use Rattle.bus_core.specs.Places.{StandsIn}
use Rattle.bus_core.specs.Reusing.Participants.{sizes_with}
use Rattle.bus_core.specs.Reusing.Keeping.{IsOutside, IsPinned, PinKeeps, IsHeldReclaimer}
use Rattle.bus_core.specs.Reusing.Keeping.{ReclaimerKeeps, IsRowReady, ParticipantKeeps, held_of}
use Rattle.bus_core.specs.Reusing.Passing.{passing_left}
use Rattle.bus_core.specs.Reusing.Telling.{Returns, Gives, Says}
use Rattle.bus_core.specs.Senders.{Sender, Situation, Does, Announces, Validates, Unpins}
use Rattle.bus_core.specs.Senders.{Withdraws, Scans, Clears, ReadsPassed, reclaiming, passing}
use Rattle.bus_core.specs.Senders.{at_home, pinning, passed_start, situation_by, situation}
use Rattle.bus_core.specs.Senders.{participant_of}
use Rattle.bus_core.specs.declared.reuses.Passing.{Passing}
use Rattle.bus_core.specs.declared.reuses.Reuse.{Reuse}
use Rattle.bus_core.specs.declared.steps.Step.TheVariants as step
use Rattle.bus_core.proofs.Reusing.Keeps.{runs_pinned}
use Rattle.bus_core.proofs.Reusing.Tells.{ready_of, handed_of}

-- ---- with rows that are used again
-- its pin asks for no step
abbrev pub IsCalm : Pin → Type 0
IsCalm u = (u ≡ Away) ⊎ ((t : ℕ) × (u ≡ Pinned t))

-- it goes on in its tenure: no step of its pin is due, and none of a reclamation where it gives the
-- page back
pub record GoesCalmly {E : Type 0} (r : Reuse) (z : Own E) : Type 0 where
  pub calm : IsCalm r.pin
  pub done : (t : ℕ) (page : Page) (reason : Reason) → z ≡ GivesBack t page reason
      → IfSome r.reclaimer (λ s. is_reclaimed s ≡ true)

-- it would give the page of a tenure back, and goes on with this reclamation first
pub record Reclaims {E : Type 0} (r : Reuse) (z : Own E) (s : Reclaiming) : Type 0 where
  pub calm : IsCalm r.pin
  pub is : r.reclaimer ≡ Some s
  pub tenure : ℕ
  pub page : Page
  pub reason : Reason
  pub gives : z ≡ GivesBack tenure page reason

-- of so many passed places it has loaded this, and would give the page of this tenure back for want
-- of room
pub record Passes {E : Type 0} (passers : ℕ) (r : Reuse) (z : Own E) (t : ℕ) (p : Passing) :
    Type 0 where
  pub calm : IsCalm r.pin
  pub is : r.passed ≡ p
  pub page : Page
  pub gives : z ≡ GivesBack t page NoRoom
  pub left : p.loaded < passers

-- ---- what a situation tells of what is done in its tenure, of its pin and of its reclamation,
-- where there are so many passed places
abbrev pub SituationTells : {E : Type 0} → ℕ → Situation E → Option Reuse → Own E → Type 0
SituationTells n (Does w) reuse z = (z ≡ w) × IfSome reuse (λ r. GoesCalmly r z)
SituationTells n (Announces t) reuse z = IsSomeAnd reuse (λ r. r.pin ≡ Announcing t)
SituationTells n (Validates t) reuse z = IsSomeAnd reuse (λ r. r.pin ≡ Validating t)
SituationTells n (Unpins t) reuse z = IsSomeAnd reuse (λ r. r.pin ≡ Unpinning t)
SituationTells n (Withdraws t) reuse z = IsSomeAnd reuse (λ r. r.pin ≡ Invalidated t)
SituationTells n (Scans s) reuse z = IsSomeAnd reuse (λ r. Reclaims r z s × (s.scanned < s.senders))
SituationTells n (Clears s) reuse z = IsSomeAnd reuse (λ r. Reclaims r z s × IsClearing s)
SituationTells n (ReadsPassed t p) reuse z = IsSomeAnd reuse (λ r. Passes n r z t p)

-- of who gives the page back, once all passed places are loaded or none is to be
back_tells : (E : Type 0) (n : ℕ) (r : Reuse) (t : ℕ) (page : Page) (reason : Reason)
    → IsCalm r.pin
    → SituationTells {E = E} n (reclaiming r.reclaimer (GivesBack t page reason)) (Some r)
    (GivesBack t page reason)
back_tells E n r t page reason calm = by r.reclaimer refl where
  by : (l : Option Reclaiming) → r.reclaimer ≡ l
      → SituationTells {E = E} n (reclaiming l (GivesBack t page reason)) (Some r)
      (GivesBack t page reason)
  by None e = (
    refl,
    record {
      calm = calm;
      done = λ u p w i. subst (λ y. IfSome y (λ s. is_reclaimed s ≡ true)) (sym e) tt;
    },
  )
  by (Some s) e = at (nat_lt s.scanned s.senders) (nat_lt s.cleared s.width) refl refl where
    goes_on : Reclaims {E = E} r (GivesBack t page reason) s
    goes_on = record { calm = calm; is = e; tenure = t; page = page; reason = reason; gives = refl }

    at : (a b : Bool) → nat_lt s.scanned s.senders ≡ a → nat_lt s.cleared s.width ≡ b
        → SituationTells {E = E} n
        (cond a (Scans s) (cond b (Clears s) (Does (GivesBack t page reason)))) (Some r)
        (GivesBack t page reason)
    at true b p q = (goes_on, ltb-true _ _ p)
    at false true p q = (goes_on, record { passed = ltb-false _ _ p; left = ltb-true _ _ q })
    at false false p q =
        let over : is_reclaimed s ≡ true = grind (arith, lt-ltb, p, q) in (
          refl,
          record {
            calm = calm;
            done = λ u g w i. subst (λ y. IfSome y (λ s. is_reclaimed s ≡ true)) (sym e) over;
          },
        )

-- of who takes no step of a pin
home_tells : {E : Type 0} (n : ℕ) (r : Reuse) (z : Own E) → IsCalm r.pin
    → SituationTells n (at_home (passing_left n r.passed) r.reclaimer z) (Some r) z
home_tells {E} n r (GivesBack t page Sent) calm = back_tells E n r t page Sent calm
home_tells {E} n r (GivesBack t page FoundEnd) calm = back_tells E n r t page FoundEnd calm
home_tells {E} n r (GivesBack t page NoRoom) calm = by (nat_lt r.passed.loaded n) refl where
  by : (b : Bool) → nat_lt r.passed.loaded n ≡ b
      → SituationTells {E = E} n (passing (cond b (Some r.passed) None) t NoRoom
      (reclaiming r.reclaimer (GivesBack t page NoRoom))) (Some r) (GivesBack t page NoRoom)
  by true e =
      record { calm = calm; is = refl; page = page; gives = refl; left = ltb-true _ _ e }
  by false e = back_tells E n r t page NoRoom calm
home_tells n r z calm = (refl, record { calm = calm; done = λ t page reason i. absurd cc })

-- of whatever it holds
pinning_tells : {E : Type 0} (n : ℕ) (r : Reuse) (z : Own E) (u : Pin) → r.pin ≡ u
    → SituationTells n (pinning u (passing_left n r.passed) r.reclaimer z) (Some r) z
pinning_tells n r z Away e = home_tells n r z (inl e)
pinning_tells n r z (Announcing t) e = e
pinning_tells n r z (Validating t) e = e
pinning_tells n r z (Pinned t) e = home_tells n r z (inr (t, e))
pinning_tells n r z (Unpinning t) e = e
pinning_tells n r z (Invalidated t) e = e

-- with both kinds of rows
pub tells_by : {E : Type 0} (n : ℕ) (reuse : Option Reuse) (z : Own E) (y : Situation E)
    → situation_by n reuse z ≡ y → SituationTells n y reuse z
tells_by {E} n reuse z y i = subst (λ y. SituationTells n y reuse z) i (by reuse) where
  by : (reuse : Option Reuse) → SituationTells {E = E} n (situation_by n reuse z) reuse z
  by None = (refl, tt)
  by (Some r) = pinning_tells n r z r.pin refl

-- the situation that it is in
pub situation_tells : {E : Type 0} (X : Election E) (v : Sender E) (y : Situation E)
    → situation X v ≡ y
    → SituationTells v.core.layout.passers y v.reuse (own_situation X v.core)
situation_tells X v y i = tells_by v.core.layout.passers v.reuse (own_situation X v.core) y i

-- what it does in its tenure is the situation of its turns
pub own_is : {E : Type 0} (X : Election E) (v : Sender E) (z : Own E) → situation X v ≡ Does z
    → own_situation X v.core ≡ z
own_is X v z i = (situation_tells X v (Does z) i).0

-- whose pin asks for no step does what it would do without a pin
pub calm_home : {E : Type 0} (r : Reuse) (l : Option Passing) (z : Own E) → IsCalm r.pin
    → pinning r.pin l r.reclaimer z ≡ at_home l r.reclaimer z
calm_home r l z (inl away) = ap (λ u. pinning u l r.reclaimer z) away
calm_home r l z (inr p) = ap (λ u. pinning u l r.reclaimer z) p.1

-- so who goes on in its tenure does anything else there that waits for no passed place and no
-- reclamation
pub goes_does : {E : Type 0} (n : ℕ) (reuse : Option Reuse) (w z : Own E)
    → IfSome reuse (λ r. GoesCalmly r w)
    → ((l : Option Passing) (s : Option Reclaiming) → at_home l s z ≡ Does z)
    → situation_by n reuse z ≡ Does z
goes_does n None w z g home = refl
goes_does n (Some r) w z g home =
    calm_home r (passing_left n r.passed) z g.calm ∙ home (passing_left n r.passed) r.reclaimer

-- and so does who pins none
pub away_does : {E : Type 0} (n : ℕ) (reuse : Option Reuse) (z : Own E) → IsAway reuse
    → ((l : Option Passing) (s : Option Reclaiming) → at_home l s z ≡ Does z)
    → situation_by n reuse z ≡ Does z
away_does n None z away home = refl
away_does n (Some r) z away home =
    calm_home r (passing_left n r.passed) z (inl away) ∙ home (passing_left n r.passed) r.reclaimer

-- ---- on a bus without passed places
-- none is left
pub none_left : (n : ℕ) (p : Passing) → n ≡ 0 → passing_left n p ≡ None
none_left n p none =
    let over : n ≤ p.loaded = omega arith in
    ap (λ b. cond b (Some p) None) (le-ltb p.loaded n over)

-- so what waits for one is as it is
pub unpassed : {E : Type 0} (t : ℕ) (reason : Reason) (z : Situation E)
    → passing None t reason z ≡ z
unpassed t Sent z = refl
unpassed t FoundEnd z = refl
unpassed t NoRoom z = refl

-- and none is ever loaded
pub never_passes : {E : Type 0} (X : Election E) (v : Sender E) → v.core.layout.passers ≡ 0
    → (t : ℕ) (p : Passing) → situation X v ≡ ReadsPassed t p → ⊥
never_passes {E} X v none t p i = by v.reuse (situation_tells X v (ReadsPassed t p) i) where
  by : (reuse : Option Reuse)
      → SituationTells v.core.layout.passers (ReadsPassed t p) reuse (own_situation X v.core) → ⊥
  by None w = w
  by (Some r) w = let left = w.left in omega arith

-- ---- what waits for a passed place
-- is what it would be else, where none is loaded
pub passing_is : {E : Type 0} (l : Option Passing) (t : ℕ) (reason : Reason) (z y : Situation E)
    → ((u : ℕ) (p : Passing) → ReadsPassed u p ≡ y → ⊥) → passing l t reason z ≡ y → z ≡ y
passing_is l t Sent z y other i = i
passing_is l t FoundEnd z y other i = i
passing_is None t NoRoom z y other i = i
passing_is (Some p) t NoRoom z y other i = absurd (other t p i)

-- passed places lie behind all presences
pub passed_behind : {E : Type 0} (X : Election E) (v : Sender E) (t : ℕ) (p : Passing)
    → situation X v ≡ ReadsPassed t p
    → 2 + v.core.layout.senders ≤ passed_start v.core.layout v.reuse
passed_behind {E} X v t p i = by v.reuse (situation_tells X v (ReadsPassed t p) i) where
  by : (reuse : Option Reuse)
      → SituationTells v.core.layout.passers (ReadsPassed t p) reuse (own_situation X v.core)
      → 2 + v.core.layout.senders ≤ passed_start v.core.layout reuse
  by None w = absurd w
  by (Some r) w = omega arith

-- ---- with what a sender keeps
module _ {E : Type 0} (width : ℕ) (Belongs : ℕ → E → Type 0) (c : Core E) where
  -- what holds of rows that are used again leads to what follows with what is kept of them
  pub some_kept : (A B : Reuse → Type 0) (reuse : Option Reuse) → ReuseKeeps width Belongs c reuse
      → ((r : Reuse) → ParticipantKeeps width Belongs (participant_of c r) → A r → B r)
      → IsSomeAnd reuse A → IsSomeAnd reuse B
  some_kept A B None k f a = a
  some_kept A B (Some r) k f a = f r k a

  -- who goes through an election stands in its tenure
  pub stands_in : (reuse : Option Reuse) → ReuseKeeps width Belongs c reuse → (t : ℕ) (e : E)
      → c.phase ≡ Electing t e → StandsIn reuse t
  stands_in None k t e at = tt
  stands_in (Some r) k t e at = (runs_pinned Belongs c r.pin t e k.pin at).0

  -- whose pin asks for no step, and whose election does not run, pins none
  pub calm_away : (r : Reuse) → ParticipantKeeps width Belongs (participant_of c r)
      → IsOutside c.phase → IsCalm r.pin → r.pin ≡ Away
  calm_away r k out (inl away) = away
  calm_away r k out (inr p) =
      let h : IsPinned Belongs c p.0 = subst (PinKeeps Belongs c) p.1 k.pin in
      absurd (let bad : IsOutside (Electing p.0 h.election) = subst IsOutside h.is out in cc)

  -- the same of who goes on in its tenure
  pub goes_away : (reuse : Option Reuse) → ReuseKeeps width Belongs c reuse → IsOutside c.phase
      → (z : Own E)
      → IfSome reuse (λ r. GoesCalmly r z) → IsAway reuse
  goes_away None k out z g = tt
  goes_away (Some r) k out z g = calm_away r k out g.calm

  -- a reclamation is this holder's
  pub held_reclaimer : (r : Reuse) → ParticipantKeeps width Belongs (participant_of c r)
      → (s : Reclaiming) → r.reclaimer ≡ Some s
      → IsHeldReclaimer (sizes_with c.layout r.rows) c.phase s
  held_reclaimer r k s e = subst (ReclaimerKeeps (sizes_with c.layout r.rows) c.phase) e k.reclaimer

  -- who gives the page of a tenure back, or has handed it on, has the row of the next one ready
  pub row_ready : (reuse : Option Reuse) → ReuseKeeps width Belongs c reuse → (t : ℕ) (z : Own E)
      → Returns t z
      → ((reason : Reason) → z ≡ HasHanded t reason → c.phase ≡ Giving t reason)
      → held_of c.phase ≡ Some t
      → IfSome reuse (λ r. GoesCalmly r z)
      → IfSome reuse (λ r. IsRowReady (sizes_with c.layout r.rows) t r.reclaimer)
  row_ready None k t z w handed held g = tt
  row_ready (Some r) k t z (Gives page reason) handed held g =
      ready_of (sizes_with c.layout r.rows) c.phase r.reclaimer t k.reclaimer held
      (g.done t page reason refl)
  row_ready (Some r) k t z (Says reason) handed held g =
      ready_of (sizes_with c.layout r.rows) c.phase r.reclaimer t k.reclaimer held
      (handed_of (sizes_with c.layout r.rows) c.phase r.reclaimer t reason k.reclaimer
      (handed reason refl))

-- ---- from what code sees of it
module _ {E : Type 0} where
  -- it goes on in some situation of its turns
  is_does : (y : Situation E) (d : Doing) → step_of y ≡ step.Does d → (z : Own E) × (y ≡ Does z)
  is_does (Does z) d i = (z, refl)
  is_does (Announces t) d i = absurd cc
  is_does (Validates t) d i = absurd cc
  is_does (Unpins t) d i = absurd cc
  is_does (Withdraws t) d i = absurd cc
  is_does (Scans s) d i = absurd cc
  is_does (Clears s) d i = absurd cc
  is_does (ReadsPassed t p) d i = absurd cc

  -- who is seen to go on as a sender is in the situation of its turns
  pub does_by : (n : ℕ) (r : Option Reuse) (z : Own E) (d : Doing)
      → step_of (situation_by n r z) ≡ step.Does d → situation_by n r z ≡ Does z
  does_by n r z d i =
      let w = is_does (situation_by n r z) d i in
      w.1 ∙ ap Does (sym (tells_by n r z (Does w.0) w.1).0)

  -- and is seen to do what its turns do
  pub doing_by : (n : ℕ) (r : Option Reuse) (z : Own E) (d : Doing)
      → step_of (situation_by n r z) ≡ step.Does d → doing_of z ≡ d
  doing_by n r z d i =
      let same : step.Does (doing_of z) ≡ step.Does d =
      ap step_of (sym (does_by n r z d i)) ∙ i in
      cc

  -- who is seen to give a page back without room loads a passed place first, where one is left
  pub step_passes : (n : ℕ) (p : Passing) (s : Option Reclaiming) (z : Own E)
      → asks_first n p (doing_of z) ≡ true
      → step_of (at_home (passing_left n p) s z) ≡ step.ReadsPassed
  step_passes n p s (GivesBack t page Sent) e = absurd (true≢false (sym e))
  step_passes n p s (GivesBack t page FoundEnd) e = absurd (true≢false (sym e))
  step_passes n p s (GivesBack t page NoRoom) e = ap (λ b. step_of (passing {E = E}
      (cond b (Some p) None) t NoRoom (reclaiming s (GivesBack t page NoRoom)))) e
  step_passes n p s z e = absurd cc

  -- and none else
  pub step_stays : (n : ℕ) (p : Passing) (s : Option Reclaiming) (z : Own E)
      → asks_first n p (doing_of z) ≡ false
      → at_home (passing_left n p) s z ≡ at_home None s z
  step_stays n p s (GivesBack t page Sent) e = refl
  step_stays n p s (GivesBack t page FoundEnd) e = refl
  step_stays n p s (GivesBack t page NoRoom) e = ap (λ b. passing {E = E}
      (cond b (Some p) None) t NoRoom (reclaiming s (GivesBack t page NoRoom))) e
  step_stays n p s z e = refl

  -- so what is seen of who takes no step of a pin is what it does at home
  pub home_seen : (X : Election E) (v : Sender E) (r : Reuse) → v.reuse ≡ Some r → IsCalm r.pin
      → asks_first v.core.layout.passers r.passed (doing_of (own_situation X v.core)) ≡ false
      → step_of (at_home None r.reclaimer (own_situation X v.core)) ≡ step_of (situation X v)
  home_seen X v r again calm stays =
      let n = v.core.layout.passers in
      let z = own_situation X v.core in
      ap step_of
      (sym (ap (λ u. situation_by n u z) again ∙ calm_home r (passing_left n r.passed) z calm
      ∙ step_stays n r.passed r.reclaimer z stays))

  -- who is seen to ask a presence has a reclamation
  scans_seen : (y : Situation E) → step_of y ≡ step.Scans → (s : Reclaiming) × (y ≡ Scans s)
  scans_seen (Does z) i = absurd cc
  scans_seen (Announces t) i = absurd cc
  scans_seen (Validates t) i = absurd cc
  scans_seen (Unpins t) i = absurd cc
  scans_seen (Withdraws t) i = absurd cc
  scans_seen (Scans s) i = (s, refl)
  scans_seen (Clears s) i = absurd cc
  scans_seen (ReadsPassed t p) i = absurd cc

  -- and who is seen to clear a word
  clears_seen : (y : Situation E) → step_of y ≡ step.Clears → (s : Reclaiming) × (y ≡ Clears s)
  clears_seen (Does z) i = absurd cc
  clears_seen (Announces t) i = absurd cc
  clears_seen (Validates t) i = absurd cc
  clears_seen (Unpins t) i = absurd cc
  clears_seen (Withdraws t) i = absurd cc
  clears_seen (Scans s) i = absurd cc
  clears_seen (Clears s) i = (s, refl)
  clears_seen (ReadsPassed t p) i = absurd cc

  -- which one that is, and what its step leaves and answers
  pub record Reclaimed (X : Election E) (v : Sender E) (got word : ℕ) : Type 0 where
    pub reclaimer : Reclaiming
    pub is : reclaimer_in v.reuse ≡ Some reclaimer
    pub leaves : (line_now X v).fed got word
        ≡ record v { reuse = reuse_reclaiming v.reuse (reclaim_fed reclaimer got) }
    pub answers : (line_now X v).answer got word ≡ answer_of_reclaim (behind_of reclaimer got)

  pub reclaimed : (X : Election E) (v : Sender E) (got word : ℕ)
      → (step_of (situation X v) ≡ step.Scans) ⊎ (step_of (situation X v) ≡ step.Clears)
      → Reclaimed X v got word
  reclaimed X v got word (inl i) =
      let w = scans_seen (situation X v) i in
      record {
        reclaimer = w.0;
        is = by w.0 v.reuse (situation_tells X v (Scans w.0) w.1);
        leaves = ap (λ z. (line X v z).fed got word) w.1;
        answers = ap (λ z. (line X v z).answer got word) w.1;
      }
    where
      by : (s : Reclaiming) (u : Option Reuse)
          → SituationTells v.core.layout.passers (Scans s) u (own_situation X v.core)
          → reclaimer_in u ≡ Some s
      by s None w = absurd w
      by s (Some r) w = w.0.is
  reclaimed X v got word (inr i) =
      let w = clears_seen (situation X v) i in
      record {
        reclaimer = w.0;
        is = by w.0 v.reuse (situation_tells X v (Clears w.0) w.1);
        leaves = ap (λ z. (line X v z).fed got word) w.1;
        answers = ap (λ z. (line X v z).answer got word) w.1;
      }
    where
      by : (s : Reclaiming) (u : Option Reuse)
          → SituationTells v.core.layout.passers (Clears s) u (own_situation X v.core)
          → reclaimer_in u ≡ Some s
      by s None w = absurd w
      by s (Some r) w = w.0.is

  -- and who is seen to load a passed place loads one
  pub is_passed : (y : Situation E) → step_of y ≡ step.ReadsPassed → (t : ℕ) × (p : Passing)
      × (y ≡ ReadsPassed t p)
  is_passed (Does z) i = absurd cc
  is_passed (Announces t) i = absurd cc
  is_passed (Validates t) i = absurd cc
  is_passed (Unpins t) i = absurd cc
  is_passed (Withdraws t) i = absurd cc
  is_passed (Scans s) i = absurd cc
  is_passed (Clears s) i = absurd cc
  is_passed (ReadsPassed t p) i = (t, p, refl)
