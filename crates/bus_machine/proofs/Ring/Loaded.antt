-- What a holder has loaded of the passed places is what its actions found there since it took its
-- page; and once all are loaded, the floor of the page is the least of them.
use Rattle.std.proofs.Common.{◌≡◌, ℕ, ◌+◌, ◌/◌, ◌<◌, ◌≤◌, ◌==◌, nat_le, Bool, true, false, cond}
use Rattle.std.proofs.Common.{Option, Some, None, List, [], ◌∷◌, ◌++◌, length, slice_get, nat_lt}
use Rattle.std.proofs.Common.{arith, refl, sym, ◌∙◌, ap, subst}
use Rattle.std.proofs.lemmas.Bool.{ltb-false}
use Rattle.std.proofs.lemmas.Bool.Decides.{eqb_tells}
use Rattle.std.proofs.lemmas.Option.{same_Some}
use Rattle.std.proofs.lemmas.Grind.{common_steps}
use Rattle.bus_core.proofs.Situated.{IsCalm, calm_home, situation_tells}
use Rattle.bus_core.specs.Loading.{passed_in}
use Rattle.bus_core.specs.Reusing.Passing.{AreBehind, GivesLeast, passing_begun, passing_fed}
use Rattle.bus_core.specs.Reusing.Passing.{passing_over}
use Rattle.bus_core.specs.Senders.{Sender, Situation, Does, Announces, Validates, Unpins, Withdraws}
use Rattle.bus_core.specs.Senders.{Scans, Clears, ReadsPassed, situation, situation_by}
use Rattle.bus_core.specs.Table.{line, seen, reuse_pinning, reuse_reclaiming, reuse_passed}
use Rattle.bus_core.specs.Table.{reuse_taken}
use Rattle.bus_core.specs.declared.reuses.Passing.{Passing}
use Rattle.bus_core.specs.declared.reuses.Reuse.{Reuse}
use Rattle.bus_presence.specs.Reclaimers.{Reclaiming}
use Rattle.bus_presence.specs.Reclamation.{Entry}
use Rattle.bus_presence.specs.declared.pins.Pin.{Pin}
use Rattle.bus_register.specs.Protocol.{Protocol}
use Rattle.bus_register.specs.declared.limits.TheConstants.{PLACES}
use Rattle.bus_tenure.specs.Core.{Election, Layout}
use Rattle.bus_tenure.specs.Situations.{IsClosed, IsIdle, IsSpent, LooksAtStage, Elects, TakesPage}
use Rattle.bus_tenure.specs.Situations.{AwaitsPage, StoresWord, StoresLength, GivesBack, HasHanded}
use Rattle.bus_tenure.specs.Situations.{core_begun, core_elected, core_floored, phase_floored}
use Rattle.bus_tenure.specs.Situations.{lesser, waits}
use Rattle.bus_tenure.specs.declared.pages.Page.{Page}
use Rattle.bus_tenure.specs.declared.phases.Phase.{Phase}
use Rattle.bus_tenure.specs.declared.phases.Phase.TheVariants as phase
use Rattle.bus_tenure.specs.declared.phases.Reason.TheVariants.{NoRoom}
use Rattle.bus_world.proofs.CyclicProtocolKept.{held_page_is}
use Rattle.bus_world.proofs.FloorLaws.{lesser_is}
use Rattle.bus_world.specs.Headline.{Action}
use Rattle.bus_world.specs.Private.Sending.{Part, Fits}
use Rattle.bus_world.specs.Trails.{put_actions, mark_actions}
use Rattle.bus_world.specs.Turning.{after_step}
use Rattle.bus_world.specs.declared.events.Answer.{Answer}
use Rattle.bus_world.specs.declared.events.Answer.TheVariants as answer
use Rattle.bus_machine.proofs.Memory.EachSender.{OfEach, added, each}
use Rattle.bus_machine.proofs.Tenures.Entering.{enters, phase_tells}
use Rattle.bus_machine.proofs.Frames.Framed.{IsFramed, framed}
use Rattle.bus_machine.proofs.Bases.Leading.{Sits}
use Rattle.bus_machine.specs.Machine.{base_of, Machine, Trails, Reached, IsNew, found, moved}
use Rattle.bus_machine.specs.Machine.{turn_answer}
use Rattle.bus_machine.specs.Finding.{found_more, found_since, places_found}
use Rattle.bus_machine.specs.Telling.{IsLeast}

-- ---- what was found
-- with more actions
pub found_on : (places : List ℕ) (xs ys : List Action)
    → found_since places (xs ++ ys) ≡ found_since (found_since places xs) ys
found_on places [] ys = refl
found_on places (d ∷ xs) ys = found_on (found_more places d) xs ys

-- the least of one place more
over_more : (p : Passing) (places : List ℕ) (place : ℕ)
    → passing_over p (places ++ place ∷ []) ≡ passing_fed (passing_over p places) place
over_more p [] place = refl
over_more p (first ∷ places) place = over_more (passing_fed p first) places place

-- the floor that a page gets by the least of all passed places
abbrev floor_by : ℕ → ℕ → ℕ
floor_by least words = lesser (lesser least words) PLACES

-- of so many passed places these are loaded; and by the last one the page has its floor
pub record HasLoaded (passers : ℕ) (page : Page) (p : Passing) (places : List ℕ) : Type 0 where
  pub is : p ≡ passing_over passing_begun places
  pub few : p.loaded ≤ passers
  pub floor : 0 < passers → p.loaded ≡ passers → page.floor ≡ floor_by p.least page.words

-- so it is of who holds a page
abbrev Loads : {E : Type 0} → Option (Sender E) → List Action → Type 0
Loads None D = Unit {0}
Loads (Some v) D =
    (t : ℕ) (page : Page) (stored : ℕ) (published : Bool) (p : Passing)
    → v.core.phase ≡ phase.Holding t page stored published → passed_in v.reuse ≡ Some p
    → HasLoaded v.core.layout.passers page p (places_found D)

-- none is loaded of a page that is just taken
none_loaded : (passers : ℕ) (page : Page) → HasLoaded passers page passing_begun []
none_loaded passers page = grind (arith, common_steps)

-- who holds no page
abbrev pub IsAway : {E : Type 0} → Phase E → Type 0
IsAway ph = (t : ℕ) (page : Page) (stored : ℕ) (published : Bool)
    → ph ≡ phase.Holding t page stored published → ⊥

pub rests : {E : Type 0} (ph : Phase E) → ph ≡ phase.Resting → IsAway ph
rests ph is t page stored published held =
    let bad : phase.Resting ≡ phase.Holding t page stored published = sym is ∙ held in cc

pinning_same : (o : Option Reuse) (pin : Pin) → passed_in (reuse_pinning o pin) ≡ passed_in o
pinning_same None pin = refl
pinning_same (Some r) pin = refl

reclaiming_same : (o : Option Reuse) (s : Reclaiming)
    → passed_in (reuse_reclaiming o s) ≡ passed_in o
reclaiming_same None s = refl
reclaiming_same (Some r) s = refl

taken_begins : (x : Layout) (o : Option Reuse) (t : ℕ) (p : Passing)
    → passed_in (reuse_taken x o t) ≡ Some p → passing_begun ≡ p
taken_begins x None t p has = absurd (let bad = has in cc)
taken_begins x (Some r) t p has = same_Some _ _ has

fed_is : (o : Option Reuse) (l p : Passing) → passed_in (reuse_passed o l) ≡ Some p → l ≡ p
fed_is None l p has = absurd (let bad = has in cc)
fed_is (Some r) l p has = same_Some _ _ has

-- a page that gets its floor
floored_is : {E : Type 0} (least : ℕ) (ph : Phase E) (t : ℕ) (page : Page) (stored : ℕ)
    (published : Bool) → phase_floored least ph ≡ phase.Holding t page stored published
    → page.floor ≡ floor_by least page.words
floored_is least phase.Resting t page stored published held = absurd (let bad = held in cc)
floored_is least (phase.Electing u e) t page stored published held =
    absurd (let bad = held in cc)
floored_is least (phase.Taken u) t page stored published held = absurd (let bad = held in cc)
floored_is least (phase.Holding u other k b) t page stored published held = cc
floored_is least (phase.Giving u reason) t page stored published held =
    absurd (let bad = held in cc)

-- and who has it has had it before
pub floored_from : {E : Type 0} (least : ℕ) (ph : Phase E) (t : ℕ) (page : Page) (stored : ℕ)
    (published : Bool) → phase_floored least ph ≡ phase.Holding t page stored published
    → (other : Page) × (ph ≡ phase.Holding t other stored published)
floored_from least phase.Resting t page stored published held = absurd (let bad = held in cc)
floored_from least (phase.Electing u e) t page stored published held =
    absurd (let bad = held in cc)
floored_from least (phase.Taken u) t page stored published held = absurd (let bad = held in cc)
floored_from least (phase.Holding u other k b) t page stored published held = (other, cc)
floored_from least (phase.Giving u reason) t page stored published held =
    absurd (let bad = held in cc)

-- ---- what a sender does that holds no page afterwards
module _ {E : Type 0} (X : Election E) (v : Sender E) where
  -- ---- a look at the stage
  looked : (n : ℕ) (b d : Bool) → v.core.phase ≡ phase.Resting
      → IsAway (cond b v.core (cond d (record v.core { least = n }) (core_begun X v.core n))).phase
  looked n true d is = rests v.core.phase is
  looked n false true is = rests v.core.phase is
  looked n false false is = λ t page stored published held. cc

  looked_again : (n : ℕ) (b d : Bool) → v.core.phase ≡ phase.Resting
      → IsAway (cond b v.core (cond d (record v.core { least = n }) v.core)).phase
  looked_again n true d is = rests v.core.phase is
  looked_again n false true is = rests v.core.phase is
  looked_again n false false is = rests v.core.phase is

  pub looks : (o : Option Reuse) (n : ℕ) → v.core.phase ≡ phase.Resting
      → IsAway (seen X v.core o n).core.phase
  looks None n is = looked (n / 2) (waits v.core n) (nat_le v.core.layout.rows (n / 2)) is
  looks (Some q) n is =
      looked_again (n / 2) (waits v.core n) (nat_le v.core.layout.rows (n / 2)) is

  pub validated : (t : ℕ) (b : Bool) → v.core.phase ≡ phase.Resting
      → IsAway (cond b (core_begun X v.core t) v.core).phase
  validated t true is = λ u page stored published held. cc
  validated t false is = rests v.core.phase is

  -- ---- a step of its election
  decided : (t : ℕ) (e : E) (b : Bool)
      → IsAway (cond b (record v.core { phase = phase.Electing t e }) (record v.core {
        queue = record v.core.queue { busy = false };
        least = t + 1;
        phase = phase.Resting;
      })).phase
  decided t e true u page stored published held = cc
  decided t e false u page stored published held = cc

  pub elected : (t : ℕ) (e : E) (o : Option ℕ) → IsAway (core_elected v.core t e o).phase
  elected t e None = λ u page stored published held. cc
  elected t e (Some o) = decided t e (o == v.core.me)

-- ---- a turn of sender s
module _ {E : Type 0} (X : Election E) (P : Protocol E (Unit {0}) ℕ) (m : Machine E) (T : Trails)
    (sits : Sits X P m) (reached : Reached X m T) (s : ℕ) (v : Sender E)
    (at : slice_get m.senders s ≡ Some v) (D : List Action) (k : Loads (Some v) D)
    (word : ℕ) where
  f : IsFramed P m T
  f = framed X P m T sits reached

  part : Part (base_of m) m.layout f.V f.frames s v.core
  part = f.sending.parts s v.core (f.core_of s v at)

  abbrev got : Situation E → ℕ
  got z = found m (line X v z) word

  abbrev did : Situation E → List Action
  did z = added z (line X v z) (got z) word (turn_answer m (line X v z) word)

  abbrev Good : Situation E → Type 0
  Good z =
      Loads (Some (moved (after_step (line X v z).move) m.home ((line X v z).fed (got z) word)))
      (D ++ did z)

  -- nothing more is loaded, and the phase is the same
  keeps : (w : Sender E) (ds : List Action) → w.core.layout ≡ v.core.layout
      → w.core.phase ≡ v.core.phase → passed_in w.reuse ≡ passed_in v.reuse
      → found_since (places_found D) ds ≡ places_found D → Loads (Some w) (D ++ ds)
  keeps w ds layout same reuse none t page stored published p held has =
      subst (λ (x : Layout). HasLoaded x.passers page p (places_found (D ++ ds))) (sym layout)
      (subst (HasLoaded v.core.layout.passers page p) (sym none ∙ sym (found_on [] D ds))
      (k t page stored published p (sym same ∙ held) (sym reuse ∙ has)))

  -- it holds no page then
  away : (w : Sender E) (ds : List Action) → IsAway w.core.phase → Loads (Some w) ds
  away w ds none t page stored published p held has =
      absurd (none t page stored published held)

  -- it has just taken a page
  takes : (w : Sender E) (ds : List Action) (t : ℕ)
      → w.reuse ≡ reuse_taken v.core.layout v.reuse t → places_found ds ≡ [] → Loads (Some w) ds
  takes w ds t is none u page stored published p held has =
      grind (arith, common_steps, taken_begins, none_loaded)

  -- it goes on with the page that it has
  stores : (w : Sender E) (ds : List Action) (u : ℕ) (other : Page) (j i : ℕ) (b b' : Bool)
      → v.core.phase ≡ phase.Holding u other j b → w.core.phase ≡ phase.Holding u other i b'
      → w.core.layout ≡ v.core.layout → passed_in w.reuse ≡ passed_in v.reuse
      → found_since (places_found D) ds ≡ places_found D → Loads (Some w) (D ++ ds)
  stores w ds u other j i b b' was now layout reuse none t page stored published p held has =
      let same = held_page_is u other i b' t page stored published (sym now ∙ held) in
      subst (λ (x : Layout). HasLoaded x.passers page p (places_found (D ++ ds))) (sym layout)
      (subst (HasLoaded v.core.layout.passers page p) (sym none ∙ sym (found_on [] D ds))
      (subst (λ g. HasLoaded v.core.layout.passers g p (places_found D)) same
      (k u other j b p was (sym reuse ∙ has))))

  -- ---- a load of a passed place
  module _ (u : ℕ) (q : Passing) (i : situation X v ≡ ReadsPassed u q) where
    abbrev n : ℕ
    n = got (ReadsPassed u q)

    abbrev l : Passing
    l = passing_fed q n

    left : q.loaded < v.core.layout.passers
    left = grind (arith, common_steps, situation_tells)

    had : passed_in v.reuse ≡ Some q
    had = grind (arith, common_steps, situation_tells)

    more : (page : Page) → HasLoaded v.core.layout.passers page q (places_found D)
        → l ≡ passing_over passing_begun (places_found (D ++ did (ReadsPassed u q)))
    more page w = grind (arith, common_steps, over_more, found_on)

    reads_by : (b : Bool) → (l.loaded == v.core.layout.passers) ≡ b
        → Loads (Some (record {
          core = cond b (core_floored v.core l.least) v.core;
          reuse = reuse_passed v.reuse l;
        })) (D ++ did (ReadsPassed u q))
    reads_by false last t page stored published p held has =
        let w = k t page stored published q held had in
        subst (λ p. HasLoaded v.core.layout.passers page p
        (places_found (D ++ did (ReadsPassed u q)))) (fed_is v.reuse l p has) record {
          is = more page w;
          few = let a = left in omega arith;
          floor = λ some all. grind (arith, common_steps, eqb_tells);
        }
    reads_by true last t page stored published p held has =
        let was = floored_from l.least v.core.phase t page stored published held in
        let w = k t was.0 stored published q was.1 had in
        grind (arith, fed_is, more, left, floored_is)

    reads : Good (ReadsPassed u q)
    reads = reads_by (l.loaded == v.core.layout.passers) refl

  -- ---- whatever the turn is
  by_turn : (z : Situation E) → situation X v ≡ z → Good z
  by_turn (Does IsClosed) i = keeps v [] refl refl refl refl
  by_turn (Does IsIdle) i = keeps v [] refl refl refl refl
  by_turn (Does IsSpent) i = keeps v [] refl refl refl refl
  by_turn (Does LooksAtStage) i =
      away (seen X v.core v.reuse (got (Does LooksAtStage))) (D ++ did (Does LooksAtStage))
      (looks X v v.reuse (got (Does LooksAtStage)) (phase_tells X v LooksAtStage i))
  by_turn (Does (Elects t e)) i = grind (arith, common_steps, away, elected)
  by_turn (Does (TakesPage t)) i = grind (arith, common_steps, takes, found_on)
  by_turn (Does (AwaitsPage t)) i =
      absurd (subst (Fits (base_of m) f.V f.frames v.core) (phase_tells X v (AwaitsPage t) i)
      part.fits)
  by_turn (Does (StoresWord t page j)) i =
      let z = Does (StoresWord t page j) in
      let own = phase_tells X v (StoresWord t page j) i in
      stores ((line X v z).fed (got z) word) (did z) t page j (j + 1) own.0 false own.1 refl refl
      refl refl
  by_turn (Does (StoresLength t page j)) i =
      let z = Does (StoresLength t page j) in
      let own = phase_tells X v (StoresLength t page j) i in
      stores ((line X v z).fed (got z) word) (did z) t page j j own.0 true own.1 refl refl refl
      refl
  by_turn (Does (GivesBack t page reason)) i = grind (arith, common_steps, away)
  by_turn (Does (HasHanded t reason)) i = grind (arith, common_steps, away)
  by_turn (Announces t) i =
      let z = Announces t in
      keeps ((line X v z).fed (got z) word) (did z) refl refl (pinning_same v.reuse _) refl
  by_turn (Validates t) i = grind (arith, common_steps, away, validated, enters)
  by_turn (Unpins t) i =
      let z = Unpins t in
      keeps ((line X v z).fed (got z) word) (did z) refl refl (pinning_same v.reuse _) refl
  by_turn (Withdraws t) i =
      let z = Withdraws t in
      keeps ((line X v z).fed (got z) word) (did z) refl refl (pinning_same v.reuse _) refl
  by_turn (Scans q) i =
      let z = Scans q in
      keeps ((line X v z).fed (got z) word) (did z) refl refl (reclaiming_same v.reuse _) refl
  by_turn (Clears q) i =
      let z = Clears q in
      keeps ((line X v z).fed (got z) word) (did z) refl refl (reclaiming_same v.reuse _) refl
  by_turn (ReadsPassed t p) i = reads t p i

-- ---- whatever leads to a machine
module _ {E : Type 0} (X : Election E) (P : Protocol E (Unit {0}) ℕ) where
  abbrev K : Machine E → ℕ → Option (Sender E) → List Action → List Entry → Type 0
  K m q o D es = Loads o D

  starts : (m : Machine E) (q : ℕ) → IsNew m → K m q (slice_get m.senders q) [] []
  starts m q new = grind (arith, common_steps, slice_get, rests)

  -- a put or a mark loads nothing
  pub puts : (D : List Action) (bytes : List ℕ) (a : Answer)
      → places_found (D ++ put_actions bytes a) ≡ places_found D
  puts D bytes (answer.Number n) = found_on [] D (put_actions bytes (answer.Number n))
  puts D bytes answer.Closing = found_on [] D []
  puts D bytes answer.Leaving = found_on [] D []
  puts D bytes (answer.Turn t) = found_on [] D []
  puts D bytes (answer.Recv t) = found_on [] D []
  puts D bytes answer.Stopped = found_on [] D []
  puts D bytes answer.Gone = found_on [] D []

  pub marks : (D : List Action) (a : Answer) → places_found (D ++ mark_actions a) ≡ places_found D
  marks D (answer.Number n) = found_on [] D []
  marks D answer.Closing = found_on [] D (mark_actions answer.Closing)
  marks D answer.Leaving = found_on [] D (mark_actions answer.Leaving)
  marks D (answer.Turn t) = found_on [] D []
  marks D (answer.Recv t) = found_on [] D []
  marks D answer.Stopped = found_on [] D []
  marks D answer.Gone = found_on [] D []

  all_load : (m : Machine E) (T : Trails) → Sits X P m → Reached X m T → OfEach K m m.senders T
  all_load = each X P K starts (λ m m' T e a t r h q o D es k. k)
      (λ m m' i j h q o D es k. k)
      (λ m q v D es bytes a k t page stored published p held has.
      subst (HasLoaded v.core.layout.passers page p) (sym (puts D bytes a))
      (k t page stored published p held has))
      (λ m q v D es mark a k t page stored published p held has.
      subst (HasLoaded v.core.layout.passers page p) (sym (marks D a))
      (k t page stored published p held has))
      (λ m m' T s word a t r h at k.
      by_turn X P m T t r s h.sender at (T.actions s) k word (situation X h.sender) refl)

  -- whoever holds a page has loaded what its actions found
  pub has_loaded : (m : Machine E) (T : Trails) → Sits X P m → Reached X m T → (s : ℕ)
      (v : Sender E) → slice_get m.senders s ≡ Some v → (t : ℕ) (page : Page) (stored : ℕ)
      (published : Bool) (r : Reuse) → v.core.phase ≡ phase.Holding t page stored published
      → v.reuse ≡ Some r
      → HasLoaded v.core.layout.passers page r.passed (places_found (T.actions s))
  has_loaded m T sits reached s v at t page stored published r held again =
      subst (λ o. Loads o (T.actions s)) at (all_load m T sits reached s) t page stored published
      r.passed held (ap passed_in again)

-- ---- once all are loaded
-- as they are where a page is given back for want of room
room_loaded : (E : Type 0) (n t : ℕ) (page : Page) (r : Reuse) → IsCalm r.pin
    → situation_by {E = E} n (Some r) (GivesBack t page NoRoom) ≡ Does (GivesBack t page NoRoom)
    → n ≤ r.passed.loaded
room_loaded E n t page r calm i = grind (arith, common_steps, nat_lt, calm_home, ltb-false)

pub gives_loaded : {E : Type 0} (X : Election E) (v : Sender E) (t : ℕ) (page : Page)
    → situation X v ≡ Does (GivesBack t page NoRoom) → (r : Reuse) → v.reuse ≡ Some r
    → v.core.layout.passers ≤ r.passed.loaded
gives_loaded {E} X v t page i r is = grind (arith, common_steps, situation_tells, room_loaded)

-- the least of some places, which a holder remembers
least_of_two : (a b : ℕ) → (lesser a b ≤ a) × (lesser a b ≤ b)
least_of_two a b = grind (arith, common_steps, lesser_is)

least_above : (n a b : ℕ) → n ≤ a → n ≤ b → n ≤ lesser a b
least_above n a b low under = grind (arith, common_steps, lesser_is)

pub gives_least : (p : Passing) (places : List ℕ) → GivesLeast p places
gives_least p [] =
    record { loaded = omega arith; within = omega arith; below = tt; greatest = λ m x y. x }
gives_least p (place ∷ places) =
    let h = gives_least (passing_fed p place) places in
    grind (arith, common_steps, least_of_two, least_above)

behind_lower : (n k : ℕ) (places : List ℕ) → n ≤ k → AreBehind k places → AreBehind n places
behind_lower n k [] low h = tt
behind_lower n k (place ∷ places) low h =
    (let first = h.0 in omega arith, behind_lower n k places low h.1)

pub all_are_found : (passers : ℕ) (page : Page) (p : Passing) (places : List ℕ)
    → HasLoaded passers page p places → passers ≤ p.loaded → length places ≡ passers
all_are_found passers page p places w all = grind (arith, common_steps, gives_least)

-- the floor is the least of them and of the words that the page knows
pub is_least : (passers : ℕ) (page : Page) (p : Passing) (places : List ℕ)
    → HasLoaded passers page p places → 0 < passers → passers ≤ p.loaded → page.words ≤ PLACES
    → IsLeast page.floor page.words places
is_least passers page p places w some all low =
    grind (arith, common_steps, behind_lower, gives_least, least_of_two, least_above)
