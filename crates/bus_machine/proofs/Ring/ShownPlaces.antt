-- What a holder has found in passed places stood there when it loaded them, each in the place of
-- the next receiver.
use Rattle.std.proofs.Common.{◌/◌, ◌≡◌, ◌⊎◌, inl, inr, ℕ, zero, suc, ◌+◌, ◌==◌, Bool, true, false}
use Rattle.std.proofs.Common.{cond}
use Rattle.std.proofs.Common.{Option, Some, None, List, [], ◌∷◌, ◌++◌, length, slice_get}
use Rattle.std.proofs.Common.{slice_index, arith, refl, sym, ◌∙◌, subst, append_assoc}
use Rattle.std.proofs.lemmas.Option.{same_Some}
use Rattle.std.proofs.lemmas.Grind.{common_steps}
use Rattle.bus_core.proofs.Situated.{situation_tells}
use Rattle.bus_core.specs.Reusing.Passing.{passing_fed}
use Rattle.bus_core.specs.Senders.{Sender, Situation, Does, Announces, Validates, Unpins}
use Rattle.bus_core.specs.Senders.{Withdraws, Scans, Clears, ReadsPassed, situation}
use Rattle.bus_core.specs.Table.{seen, line}
use Rattle.bus_core.specs.declared.reuses.Passing.{Passing}
use Rattle.bus_presence.specs.Reclamation.{Entry}
use Rattle.bus_register.specs.Protocol.{Protocol}
use Rattle.bus_tenure.proofs.Situated.{tells}
use Rattle.bus_tenure.specs.Core.{Election}
use Rattle.bus_tenure.specs.Situations.{IsClosed, IsIdle, IsSpent, LooksAtStage, Elects, TakesPage}
use Rattle.bus_tenure.specs.Situations.{AwaitsPage, StoresWord, StoresLength, GivesBack, HasHanded}
use Rattle.bus_tenure.specs.Situations.{core_floored}
use Rattle.bus_tenure.specs.declared.pages.Page.{Page}
use Rattle.bus_tenure.specs.declared.phases.Phase.{Phase}
use Rattle.bus_tenure.specs.declared.phases.Phase.TheVariants as phase
use Rattle.bus_world.specs.Headline.{Action}
use Rattle.bus_world.specs.Private.Sending.{Fits, Part}
use Rattle.bus_world.specs.Trails.{put_actions, mark_actions}
use Rattle.bus_world.specs.Turning.{after_step}
use Rattle.bus_world.specs.World.{Turn}
use Rattle.bus_world.specs.declared.events.Answer.{Answer}
use Rattle.bus_machine.proofs.Memory.EachSender.{OfEach, added, each}
use Rattle.bus_machine.proofs.Tenures.Entering.{enters, phase_tells}
use Rattle.bus_machine.proofs.Frames.Framed.{IsFramed, framed}
use Rattle.bus_machine.proofs.Bases.Leading.{Sits}
use Rattle.bus_machine.proofs.Ring.Loaded.{IsAway, elected, floored_from, found_on, looks, marks}
use Rattle.bus_machine.proofs.Ring.Loaded.{puts}
use Rattle.bus_machine.proofs.Ring.Loaded.{validated}
use Rattle.bus_machine.proofs.Ring.LoadsInTurn.{loads_in_turn}
use Rattle.bus_machine.specs.Finding.{LeadsOn, After, AfterJoin, Here, LoadsPassed, WasShown}
use Rattle.bus_machine.specs.Finding.{found_since, places_found}
use Rattle.bus_machine.specs.Machine.{base_of, Machine, Trails, Reached, IsNew, TakesTurn}
use Rattle.bus_machine.specs.Machine.{found, moved, turn_answer}

-- what stands in a list with one number more
last_or : (xs : List ℕ) (n r k : ℕ) → slice_get (xs ++ n ∷ []) r ≡ Some k
    → (slice_get xs r ≡ Some k) ⊎ ((length xs ≡ r) × (n ≡ k))
last_or [] n zero k e = inr (refl, same_Some _ _ e)
last_or [] n (suc r) k e = absurd (let bad : None ≡ Some k = e in cc)
last_or (x ∷ xs) n zero k e = inl e
last_or (x ∷ xs) n (suc r) k e = elim (last_or xs n r k e) [
  | inl a ↦ inl a
  | inr b ↦ inr ((let many = b.0 in omega arith), b.1)
]

module _ {E : Type 0} (X : Election E) where
  -- so it is of who holds a page
  abbrev pub Shows : Machine E → ℕ → Option (Sender E) → List Action → Type 0
  Shows m q None D = Unit {0}
  Shows m q (Some v) D =
      (t : ℕ) (page : Page) (stored : ℕ) (published : Bool)
      → v.core.phase ≡ phase.Holding t page stored published
      → (r n : ℕ) → slice_get (places_found D) r ≡ Some n → WasShown X m q D t r n

  -- with more actions
  more : (m : Machine E) (q : ℕ) (D ds : List Action) (t r n : ℕ) → WasShown X m q D t r n
      → WasShown X m q (D ++ ds) t r n
  more m q D ds t r n w = record {
    before = w.before;
    trails = w.trails;
    led = w.led;
    leads = w.leads;
    sender = w.sender;
    there = w.there;
    word = w.word;
    loads = w.loads;
    shows = w.shows;
    many = w.many;
    rest = w.rest ++ ds;
    since = grind (arith, common_steps, append_assoc);
  }

  -- in a machine to which the run leads from there
  later : (m m' : Machine E) → ((b : Machine E) → LeadsOn X b m → LeadsOn X b m') → (q : ℕ)
      (D : List Action) (t r n : ℕ) → WasShown X m q D t r n → WasShown X m' q D t r n
  later m m' on q D t r n w = record {
    before = w.before;
    trails = w.trails;
    led = w.led;
    leads = on w.before w.leads;
    sender = w.sender;
    there = w.there;
    word = w.word;
    loads = w.loads;
    shows = w.shows;
    many = w.many;
    rest = w.rest;
    since = w.since;
  }

-- ---- a turn of sender s
module _ {E : Type 0} (X : Election E) (P : Protocol E (Unit {0}) ℕ) (m m' : Machine E) (T : Trails)
    (sits : Sits X P m) (reached : Reached X m T) (s word : ℕ) (a : Answer)
    (h : TakesTurn X m s word a m') (at : slice_get m.senders s ≡ Some h.sender)
    (k : Shows X m s (Some h.sender) (T.actions s)) where
  abbrev v : Sender E
  v = h.sender

  abbrev D : List Action
  D = T.actions s

  f : IsFramed P m T
  f = framed X P m T sits reached

  part : Part (base_of m) m.layout f.V f.frames s v.core
  part = f.sending.parts s v.core (f.core_of s v at)

  abbrev got : Situation E → ℕ
  got z = found m (line X v z) word

  abbrev did : Situation E → List Action
  did z = added z (line X v z) (got z) word (turn_answer m (line X v z) word)

  abbrev after : Situation E → Sender E
  after z = moved (after_step (line X v z).move) m.home ((line X v z).fed (got z) word)

  abbrev Good : Situation E → Type 0
  Good z = Shows X m' s (Some (after z)) (D ++ did z)

  -- who holds a page held that of the tenure before
  abbrev Held : Phase E → Type 0
  Held ph =
      (t : ℕ) (page : Page) (stored : ℕ) (published : Bool)
      → ph ≡ phase.Holding t page stored published
      → (other : Page) × (j : ℕ) × (b : Bool) × (v.core.phase ≡ phase.Holding t other j b)

  same_held : (ph : Phase E) → ph ≡ v.core.phase → Held ph
  same_held ph same t page stored published held = (page, stored, published, sym same ∙ held)

  goes_on : (u : ℕ) (other : Page) (j i : ℕ) (b b' : Bool)
      → v.core.phase ≡ phase.Holding u other j b → Held (phase.Holding u other i b')
  goes_on u other j i b b' was t page stored published held = grind (arith, common_steps)

  -- what was shown before was shown
  still : (ds : List Action) (t : ℕ) (page : Page) (stored : ℕ) (published : Bool)
      → v.core.phase ≡ phase.Holding t page stored published
      → (r n : ℕ) → slice_get (places_found D) r ≡ Some n → WasShown X m' s (D ++ ds) t r n
  still ds t page stored published held r n has =
      more X m' s D ds t r n
      (later X m m' (λ b on. After m m' (Turn s word) a on h) s D t r n
      (k t page stored published held r n has))

  -- nothing more is loaded
  keeps : (w : Sender E) (ds : List Action) → Held w.core.phase
      → found_since (places_found D) ds ≡ places_found D → Shows X m' s (Some w) (D ++ ds)
  keeps w ds same none t page stored published held r n has =
      grind (arith, still, slice_get, found_on)

  -- it holds no page then
  away : (w : Sender E) (ds : List Action) → IsAway w.core.phase → Shows X m' s (Some w) ds
  away w ds none t page stored published held r n has = absurd (none t page stored published held)

  -- it has just taken a page
  takes : (w : Sender E) (ds : List Action) → places_found ds ≡ [] → Shows X m' s (Some w) ds
  takes w ds none t page stored published held r n has = grind (arith, common_steps, slice_get)

  -- ---- a load of a passed place
  module _ (u : ℕ) (q : Passing) (i : situation X v ≡ ReadsPassed u q) where
    abbrev n : ℕ
    n = got (ReadsPassed u q)

    -- of the tenure whose page it holds
    own : (page : Page) × (stored : ℕ) × (published : Bool)
        × (v.core.phase ≡ phase.Holding u page stored published)
    own = grind (arith, common_steps, situation_tells, tells)

    loads : LoadsPassed X m v word (length (places_found D))
    loads = loads_in_turn X P m T sits reached s v u word q at i

    -- it finds what stands there
    this : WasShown X m' s (D ++ did (ReadsPassed u q)) u (length (places_found D)) n
    this = record {
      before = m;
      trails = T;
      led = reached;
      leads = After m m' (Turn s word) a Here h;
      sender = v;
      there = at;
      word = word;
      loads = loads;
      shows = grind (arith, common_steps, slice_index, loads);
      many = refl;
      rest = [];
      since = refl;
    }

    floored : (b : Bool) (l : Passing)
        → Held (cond b (core_floored v.core l.least) v.core).phase
    floored true l t page stored published held = grind (arith, common_steps, floored_from)
    floored false l t page stored published held = (page, stored, published, held)

    reads : Good (ReadsPassed u q)
    reads t page stored published held r g has =
        let l = passing_fed q n in
        let was = floored (l.loaded == v.core.layout.passers) l t page stored published held in
        elim (last_or (places_found D) n r g
        (subst (λ l. slice_get l r ≡ Some g) (found_on [] D (did (ReadsPassed u q))) has)) [
          | inl old ↦ still (did (ReadsPassed u q)) t was.0 was.1 was.2 was.3 r g old
          | inr new ↦ grind (arith, common_steps, own, length, this)
        ]

  -- ---- whatever the turn is
  by_turn : (z : Situation E) → situation X v ≡ z → Good z
  by_turn (Does IsClosed) i = keeps v [] (same_held v.core.phase refl) refl
  by_turn (Does IsIdle) i = keeps v [] (same_held v.core.phase refl) refl
  by_turn (Does IsSpent) i = keeps v [] (same_held v.core.phase refl) refl
  by_turn (Does LooksAtStage) i =
      away (seen X v.core v.reuse (got (Does LooksAtStage))) (D ++ did (Does LooksAtStage))
      (looks X v v.reuse (got (Does LooksAtStage)) (phase_tells X v LooksAtStage i))
  by_turn (Does (Elects t e)) i =
      let z = Does (Elects t e) in
      away ((line X v z).fed (got z) word) (D ++ did z)
      (elected X v t (X.fed e (got z) word) (X.owner (X.fed e (got z) word)))
  by_turn (Does (TakesPage t)) i =
      let z = Does (TakesPage t) in
      takes (after z) (D ++ did z) (found_on [] D (did z))
  by_turn (Does (AwaitsPage t)) i =
      absurd (subst (Fits (base_of m) f.V f.frames v.core) (phase_tells X v (AwaitsPage t) i)
      part.fits)
  by_turn (Does (StoresWord t page j)) i =
      let z = Does (StoresWord t page j) in
      let own = phase_tells X v (StoresWord t page j) i in
      keeps ((line X v z).fed (got z) word) (did z) (goes_on t page j (j + 1) own.0 false own.1)
      refl
  by_turn (Does (StoresLength t page j)) i =
      let z = Does (StoresLength t page j) in
      let own = phase_tells X v (StoresLength t page j) i in
      keeps ((line X v z).fed (got z) word) (did z) (goes_on t page j j own.0 true own.1) refl
  by_turn (Does (GivesBack t page reason)) i =
      let z = Does (GivesBack t page reason) in
      away ((line X v z).fed (got z) word) (D ++ did z) (λ u other stored published held. cc)
  by_turn (Does (HasHanded t reason)) i =
      let z = Does (HasHanded t reason) in
      away ((line X v z).fed (got z) word) (D ++ did z) (λ u other stored published held. cc)
  by_turn (Announces t) i =
      let z = Announces t in
      keeps ((line X v z).fed (got z) word) (did z) (same_held v.core.phase refl) refl
  by_turn (Validates t) i =
      let z = Validates t in
      away ((line X v z).fed (got z) word) (D ++ did z)
      (validated X v t (got z / 2 == t) (enters X P m T sits reached s v at t i).0)
  by_turn (Unpins t) i =
      let z = Unpins t in
      keeps ((line X v z).fed (got z) word) (did z) (same_held v.core.phase refl) refl
  by_turn (Withdraws t) i =
      let z = Withdraws t in
      keeps ((line X v z).fed (got z) word) (did z) (same_held v.core.phase refl) refl
  by_turn (Scans q) i =
      let z = Scans q in
      keeps ((line X v z).fed (got z) word) (did z) (same_held v.core.phase refl) refl
  by_turn (Clears q) i =
      let z = Clears q in
      keeps ((line X v z).fed (got z) word) (did z) (same_held v.core.phase refl) refl
  by_turn (ReadsPassed t p) i = reads t p i

-- ---- whatever leads to a machine
module _ {E : Type 0} (X : Election E) (P : Protocol E (Unit {0}) ℕ) where
  abbrev K : Machine E → ℕ → Option (Sender E) → List Action → List Entry → Type 0
  K m q o D es = Shows X m q o D

  starts : (m : Machine E) (q : ℕ) → IsNew m → K m q (slice_get m.senders q) [] []
  starts m q new = grind (arith, common_steps, slice_get)

  stays : (m m' : Machine E) → ((b : Machine E) → LeadsOn X b m → LeadsOn X b m') → (q : ℕ)
      (o : Option (Sender E)) (D : List Action) → Shows X m q o D → Shows X m' q o D
  stays m m' on q None D k = tt
  stays m m' on q (Some v) D k = λ t page stored published held r n has.
      later X m m' on q D t r n (k t page stored published held r n has)

  -- with actions that load nothing
  joined : (m : Machine E) (q : ℕ) (v : Sender E) (D ds : List Action)
      → places_found (D ++ ds) ≡ places_found D → Shows X m q (Some v) D
      → Shows X m q (Some v) (D ++ ds)
  joined m q v D ds same k t page stored published held r n has =
      more X m q D ds t r n (k t page stored published held r n
      (subst (λ l. slice_get l r ≡ Some n) same has))

  shown : (m : Machine E) (T : Trails) → Sits X P m → Reached X m T → OfEach K m m.senders T
  shown = each X P K starts
      (λ m m' T e a t r h q o D es k. stays m m' (λ b on. After m m' e a on h) q o D k)
      (λ m m' i j h q o D es k. stays m m' (λ b on. AfterJoin m m' i j on h) q o D k)
      (λ m q v D es bytes a k. joined m q v D (put_actions bytes a) (puts X P D bytes a) k)
      (λ m q v D es mark a k. joined m q v D (mark_actions a) (marks X P D a) k)
      (λ m m' T s word a t r h at k.
      by_turn X P m m' T t r s word a h at k (situation X h.sender) refl)

  pub all_shown : (m : Machine E) (T : Trails) → Sits X P m → Reached X m T → (s : ℕ)
      (v : Sender E) (t : ℕ) (page : Page) (stored : ℕ) (published : Bool) (r n : ℕ)
      → slice_get m.senders s ≡ Some v → v.core.phase ≡ phase.Holding t page stored published
      → slice_get (places_found (T.actions s)) r ≡ Some n → WasShown X m s (T.actions s) t r n
  all_shown m T sits reached s v t page stored published r n at held =
      subst (λ o. Shows X m s o (T.actions s)) at (shown m T sits reached s) t page stored published
      held r n
