-- Whatever happens, the floor of a page only rises.
use Rattle.std.proofs.Common.{◌≡◌, ◌⊎◌, inl, inr, ℕ, ◌+◌, ◌*◌, ◌<◌, ◌≤◌, ◌==◌, Bool, true}
use Rattle.std.proofs.Common.{false, cond, Option, Some, None, List, slice_get, slice_set}
use Rattle.std.proofs.Common.{slice_index, arith, refl, sym, ◌∙◌, ap, subst}
use Rattle.std.proofs.lemmas.Bool.{cases_eq}
use Rattle.std.proofs.lemmas.Option.{same_Some, slice_get_within}
use Rattle.std.proofs.lemmas.Grind.{common_steps}
use Rattle.bus_batch.specs.Frames.{log_words}
use Rattle.bus_core.proofs.Situated.{situation_tells, SituationTells}
use Rattle.bus_core.specs.Reusing.Keeping.{held_of}
use Rattle.bus_core.specs.Reusing.Passing.{passing_fed}
use Rattle.bus_core.specs.Senders.{Sender, Situation, Does, Announces, Validates, Unpins}
use Rattle.bus_core.specs.Senders.{Withdraws, Scans, Clears, ReadsPassed, passed_start, situation}
use Rattle.bus_core.specs.Table.{line}
use Rattle.bus_core.specs.declared.limits.TheConstants.{PASSED_APART}
use Rattle.bus_core.specs.declared.reuses.Passing.{Passing}
use Rattle.bus_core.specs.declared.reuses.Reuse.{Reuse}
use Rattle.bus_register.specs.Protocol.{Protocol}
use Rattle.bus_register.specs.Private.TableLaws.{get_set_same, get_set_other}
use Rattle.bus_register.specs.declared.limits.TheConstants.{PLACES}
use Rattle.bus_tenure.specs.Core.{Core, Election, Layout, page_after}
use Rattle.bus_tenure.specs.Situations.{IsClosed, IsIdle, IsSpent, LooksAtStage, Elects, TakesPage}
use Rattle.bus_tenure.specs.Situations.{AwaitsPage, StoresWord, StoresLength, GivesBack, HasHanded}
use Rattle.bus_tenure.specs.Situations.{core_floored, phase_floored, lesser, situation_of}
use Rattle.bus_tenure.specs.declared.pages.Page.{Page}
use Rattle.bus_tenure.specs.declared.phases.Phase.{Phase}
use Rattle.bus_tenure.specs.declared.phases.Phase.TheVariants as phase
use Rattle.bus_tenure.specs.declared.phases.Reason.{Reason}
use Rattle.bus_tenure.specs.declared.phases.Reason.TheVariants.{Sent, FoundEnd, NoRoom}
use Rattle.bus_world.proofs.Bounds.{words_low}
use Rattle.bus_world.proofs.CyclicProtocolKept.{held_page_is}
use Rattle.bus_world.proofs.FloorLaws.{lesser_is}
use Rattle.bus_world.proofs.LogLaws.{length-logged}
use Rattle.bus_world.proofs.Stopping.{shown_there}
use Rattle.bus_world.specs.Private.Sending.{Part, Fits}
use Rattle.bus_world.specs.Turning.{home_moved, core_with_page, after_step}
use Rattle.bus_world.specs.World.{Event, Put, Ask, Turn, Recv, Stop, Gone}
use Rattle.bus_world.specs.declared.events.Answer.{Answer}
use Rattle.bus_machine.proofs.Tenures.Entering.{enters, phase_tells}
use Rattle.bus_machine.proofs.Frames.Framed.{IsFramed, framed}
use Rattle.bus_machine.proofs.Bases.Leading.{Sits, sits_after}
use Rattle.bus_machine.proofs.Frames.Paging.{holds_it, paged_it}
use Rattle.bus_machine.specs.Machine.{base_of, Machine, Trails, Reached, Then, Happens, TakesTurn}
use Rattle.bus_machine.specs.Machine.{found, has_stopped, moved, passers_place, trails_grown}
use Rattle.bus_machine.specs.Machine.{put_in, mark_in}
use Rattle.bus_machine.specs.Promise.{FloorsRise, IsPagedBy, IsPageOf}
use Rattle.bus_machine.specs.Remembering.{rows_in}

lesser_above : (n a b : ℕ) → n ≤ a → n ≤ b → n ≤ lesser a b
lesser_above n a b low under = grind (arith, common_steps, lesser_is)

-- a page that is given back keeps its floor
floor_after : {E : Type 0} (c : Core E) (t : ℕ) (page : Page) (reason : Reason)
    → (page_after c t page reason).floor ≡ page.floor
floor_after c t page Sent = refl
floor_after c t page FoundEnd = refl
floor_after c t page NoRoom = refl

-- nor is its floor past its words
held_low : {E : Type 0} (base V : ℕ → ℕ) (frames : List Rattle.bus_batch.specs.Frames.Frame)
    (c : Core E) (t : ℕ) (page : Page) (stored : ℕ) (published : Bool)
    → Fits base V frames c (phase.Holding t page stored published)
    → (page.floor ≤ page.words) × (page.words ≤ V 0)
held_low base V frames c t page stored false fits =
    let k = fits.1.page_knows in (k.floor, let same = k.words in omega arith)
held_low base V frames c t page stored true fits =
    let k = fits.1.page_knows in (k.floor, let more = fits.1.len_is in omega arith)

-- ---- a turn of sender s
module _ {E : Type 0} (X : Election E) (P : Protocol E (Unit {0}) ℕ) (m m' : Machine E) (T : Trails)
    (sits : Sits X P m) (reached : Reached X m T) (s word : ℕ) (a : Answer)
    (h : TakesTurn X m s word a m') where
  abbrev v : Sender E
  v = h.sender

  at : slice_get m.senders s ≡ Some v
  at = shown_there (has_stopped m s) (slice_get m.senders s) v h.goes

  f : IsFramed P m T
  f = framed X P m T sits reached

  part : Part (base_of m) m.layout f.V f.frames s v.core
  part = f.sending.parts s v.core (f.core_of s v at)

  abbrev home_now : Situation E → Option Page
  home_now z = home_moved (line X v z).move m.home

  abbrev sender_now : Situation E → Sender E
  sender_now z =
      moved (after_step (line X v z).move) m.home
      ((line X v z).fed (found m (line X v z) word) word)

  -- a page with such a floor or a higher one is at home then, or the sender holds it
  record Sees (z : Situation E) (floor : ℕ) : Type 0 where
    page : Page
    at_it : (home_now z ≡ Some page)
        ⊎ ((t stored : ℕ) × (published : Bool)
        × ((sender_now z).core.phase ≡ phase.Holding t page stored published))
    higher : floor ≤ page.floor

  -- ---- the page is at home
  module _ (page : Page) (home : m.home ≡ Some page) where
    stays_home : (z : Situation E) → home_now z ≡ m.home → Sees z page.floor
    stays_home z same = record { page = page; at_it = inl (same ∙ home); higher = omega arith }

    from_home : (z : Situation E) → situation X v ≡ z → Sees z page.floor
    from_home (Does (TakesPage t)) i = record {
      page = page;
      at_it = inr (
        t,
        0,
        false,
        ap
            (λ o. (core_with_page (record v.core { phase = phase.Taken t }) t o).phase) home,
      );
      higher = omega arith;
    }
    from_home (Does (AwaitsPage t)) i = record {
      page = page;
      at_it = inr (t, 0, false, ap (λ o. (core_with_page v.core t o).phase) home);
      higher = omega arith;
    }
    from_home (Does (GivesBack t other reason)) i =
        let held = holds_it X P m T sits f s v t at
        (ap held_of (phase_tells X v (GivesBack t other reason) i).2) in
        let paged = subst (IsPagedBy _ _ _) home (paged_it X P m T sits f) in
        let stage = paged.0 in absurd (omega arith)
    from_home (Does IsClosed) i = stays_home (Does IsClosed) refl
    from_home (Does IsIdle) i = stays_home (Does IsIdle) refl
    from_home (Does IsSpent) i = stays_home (Does IsSpent) refl
    from_home (Does LooksAtStage) i = stays_home (Does LooksAtStage) refl
    from_home (Does (Elects t e)) i = stays_home (Does (Elects t e)) refl
    from_home (Does (StoresWord t pg k)) i = stays_home (Does (StoresWord t pg k)) refl
    from_home (Does (StoresLength t pg k)) i = stays_home (Does (StoresLength t pg k)) refl
    from_home (Does (HasHanded t reason)) i = stays_home (Does (HasHanded t reason)) refl
    from_home (Announces t) i = stays_home (Announces t) refl
    from_home (Validates t) i = stays_home (Validates t) refl
    from_home (Unpins t) i = stays_home (Unpins t) refl
    from_home (Withdraws t) i = stays_home (Withdraws t) refl
    from_home (Scans r) i = stays_home (Scans r) refl
    from_home (Clears r) i = stays_home (Clears r) refl
    from_home (ReadsPassed t p) i = stays_home (ReadsPassed t p) refl

  -- ---- the sender holds it
  module _ (t : ℕ) (page : Page) (stored : ℕ) (published : Bool)
      (held : v.core.phase ≡ phase.Holding t page stored published) where
    abbrev has : Phase E
    has = phase.Holding t page stored published

    keeps : (z : Situation E) → (sender_now z).core.phase ≡ v.core.phase → Sees z page.floor
    keeps z same = record {
      page = page;
      at_it = inr (t, stored, published, same ∙ held);
      higher = omega arith;
    }

    low : (page.floor ≤ page.words) × (page.words ≤ f.V 0)
    low = held_low (base_of m) f.V f.frames v.core t page stored published
        (subst (Fits (base_of m) f.V f.frames v.core) held part.fits)

    -- it loads a passed place
    module _ (u : ℕ) (q : Passing) (i : situation X v ≡ ReadsPassed u q) where
      abbrev got : ℕ
      got = found m (line X v (ReadsPassed u q)) word

      place_is : (r : Reuse) → v.reuse ≡ Some r
          → passed_start v.core.layout v.reuse ≡ passers_place m.layout m.reuse
      place_is r again =
          ap (λ x. passed_start x v.reuse) part.layout ∙ ap (passed_start m.layout) again
          ∙ ap (passers_place m.layout) (sym (ap rows_in again) ∙ f.rows s v at)

      loaded : (page.floor ≤ got) × (page.floor ≤ q.least)
      loaded = by v.reuse refl (situation_tells X v (ReadsPassed u q) i) where
        by : (o : Option Reuse) → v.reuse ≡ o
            → SituationTells v.core.layout.passers (ReadsPassed u q) o (situation_of X v.core)
            → (page.floor ≤ got) × (page.floor ≤ q.least)
        by None again w = absurd w
        by (Some r) again w =
            let is = f.floored s v t page stored published at held in
            let below : q.loaded < m.layout.passers =
            subst (λ (x : Layout). q.loaded < x.passers) part.layout w.left in
            let behind = subst
            (λ n. f.floor ≤ slice_index m.words (n + PASSED_APART * q.loaded))
            (sym (place_is r again)) (f.passed q.loaded below) in
            let least = f.least s v r t at again (ap held_of held) in
            let same = ap (λ (p : Passing). p.least) w.is in
            (omega arith, omega arith)

      abbrev l : Passing
      l = passing_fed q got

      few : page.floor ≤ PLACES
      few = grind (arith, common_steps, length-logged, f, words_low, low)

      above : page.floor ≤ lesser (lesser l.least page.words) PLACES
      above = grind (arith, common_steps, lesser_above, loaded, low, few)

      reads_by : (b : Bool)
          → (next : Page)
          × ((cond b (core_floored v.core l.least) v.core).phase
          ≡ phase.Holding t next stored published) × (page.floor ≤ next.floor)
      reads_by true = (
        record page { floor = lesser (lesser l.least page.words) PLACES },
        ap (phase_floored l.least) held,
        above,
      )
      reads_by false = (page, held, omega arith)

      reads : Sees (ReadsPassed u q) page.floor
      reads = let r = reads_by (l.loaded == v.core.layout.passers) in
          record { page = r.0; at_it = inr (t, stored, published, r.1); higher = r.2 }

    from_held : (z : Situation E) → situation X v ≡ z → Sees z page.floor
    from_held (Does IsClosed) i =
        absurd (let bad : phase.Resting ≡ has = sym (phase_tells X v IsClosed i) ∙ held in cc)
    from_held (Does IsIdle) i =
        absurd (let bad : phase.Resting ≡ has = sym (phase_tells X v IsIdle i) ∙ held in cc)
    from_held (Does IsSpent) i =
        absurd (let bad : phase.Resting ≡ has = sym (phase_tells X v IsSpent i) ∙ held in cc)
    from_held (Does LooksAtStage) i =
        absurd (let bad : phase.Resting ≡ has = sym (phase_tells X v LooksAtStage i) ∙ held in cc)
    from_held (Does (Elects u e)) i = absurd
        (let bad : phase.Electing u e ≡ has = sym (phase_tells X v (Elects u e) i).0 ∙ held in cc)
    from_held (Does (TakesPage u)) i = grind (arith, common_steps, phase_tells)
    from_held (Does (AwaitsPage u)) i = absurd
        (let bad : phase.Taken u ≡ has = sym (phase_tells X v (AwaitsPage u) i) ∙ held in cc)
    from_held (Does (StoresWord u other k)) i =
        let own = phase_tells X v (StoresWord u other k) i in
        let same = held_page_is u other k own.0 t page stored published (sym own.1 ∙ held) in
        record {
          page = other;
          at_it = inr (u, k + 1, false, refl);
          higher = let e = ap (λ (g : Page). g.floor) same in omega arith;
        }
    from_held (Does (StoresLength u other k)) i =
        let own = phase_tells X v (StoresLength u other k) i in
        let same = held_page_is u other k own.0 t page stored published (sym own.1 ∙ held) in
        record {
          page = other;
          at_it = inr (u, k, true, refl);
          higher = let e = ap (λ (g : Page). g.floor) same in omega arith;
        }
    from_held (Does (GivesBack u other reason)) i =
        let own = phase_tells X v (GivesBack u other reason) i in
        let same = held_page_is u other own.0 own.1 t page stored published (sym own.2 ∙ held) in
        record {
          page = page_after v.core u other reason;
          at_it = inl refl;
          higher = grind (arith, common_steps, floor_after);
        }
    from_held (Does (HasHanded u reason)) i = grind (arith, common_steps, phase_tells)
    from_held (Announces u) i = keeps (Announces u) refl
    from_held (Validates u) i = grind (arith, common_steps, enters, at)
    from_held (Unpins u) i = keeps (Unpins u) refl
    from_held (Withdraws u) i = keeps (Withdraws u) refl
    from_held (Scans r) i = keeps (Scans r) refl
    from_held (Clears r) i = keeps (Clears r) refl
    from_held (ReadsPassed u q) i = reads u q i

  -- ---- afterwards
  senders_now : m'.senders ≡ slice_set m.senders s (sender_now (situation X v))
  senders_now = ap (λ (y : Machine E). y.senders) h.after

  seen : (floor : ℕ) → Sees (situation X v) floor
      → (next : Page) × IsPageOf m' next × (floor ≤ next.floor)
  seen floor w = elim w.at_it [
    | inl home ↦ (w.page, inl (ap (λ (y : Machine E). y.home) h.after ∙ home), w.higher)
    | inr here ↦ (
      w.page,
      inr (
        s,
        sender_now (situation X v),
        here.0,
        here.1,
        here.2,
        ap (λ l. slice_get l s) senders_now
            ∙ get_set_same m.senders s (sender_now (situation X v))
            (slice_get_within m.senders s v at),
        here.3,
      ),
      w.higher,
    )
  ]

  pub turn_raises : (page : Page) → IsPageOf m page
      → (next : Page) × IsPageOf m' next × (page.floor ≤ next.floor)
  turn_raises page (inl home) =
      seen page.floor (from_home page home (situation X v) refl)
  turn_raises page (inr held) = elim (cases_eq held.0 s) [
    | inl e ↦
        let same : held.1 ≡ v =
        same_Some _ _ (sym held.5 ∙ ap (slice_get m.senders) e ∙ at) in
        seen page.floor (from_held held.2 page held.3 held.4
        (ap (λ (u : Sender E). u.core.phase) (sym same) ∙ held.6) (situation X v) refl)
    | inr ne ↦ (
      page,
      inr (
        held.0,
        held.1,
        held.2,
        held.3,
        held.4,
        ap (λ l. slice_get l held.0) senders_now
            ∙ get_set_other m.senders s (sender_now (situation X v)) held.0 ne ∙ held.5,
        held.6,
      ),
      omega arith,
    )
  ]

-- ---- whatever happens
module _ {E : Type 0} (X : Election E) (m m' : Machine E) where
  abbrev Raises : Type 0
  Raises =
      (page : Page) → IsPageOf m page
      → (next : Page) × IsPageOf m' next × (page.floor ≤ next.floor)

  -- the page stays where it is
  still_there : m'.home ≡ m.home → m'.senders ≡ m.senders → Raises
  still_there home senders page (inl here) = (page, inl (home ∙ here), omega arith)
  still_there home senders page (inr held) = (
    page,
    inr (
      held.0,
      held.1,
      held.2,
      held.3,
      held.4,
      ap (λ l. slice_get l held.0) senders ∙ held.5,
      held.6,
    ),
    omega arith,
  )

  -- and where a sender is in the same phase
  same_phase : (s : ℕ) (v next : Sender E) → slice_get m.senders s ≡ Some v
      → next.core.phase ≡ v.core.phase → m'.home ≡ m.home
      → m'.senders ≡ slice_set m.senders s next → Raises
  same_phase s v next at same home senders page (inl here) = (page, inl (home ∙ here), omega arith)
  same_phase s v next at same home senders page (inr held) = elim (cases_eq held.0 s) [
    | inl e ↦
        let is : held.1 ≡ v = same_Some _ _ (sym held.5 ∙ ap (slice_get m.senders) e ∙ at) in (
          page,
          inr (
            s,
            next,
            held.2,
            held.3,
            held.4,
            ap (λ l. slice_get l s) senders
                ∙ get_set_same m.senders s next (slice_get_within m.senders s v at),
            same ∙ ap (λ (u : Sender E). u.core.phase) (sym is) ∙ held.6,
          ),
          omega arith,
        )
    | inr ne ↦ (
      page,
      inr (
        held.0,
        held.1,
        held.2,
        held.3,
        held.4,
        ap (λ l. slice_get l held.0) senders ∙ get_set_other m.senders s next held.0 ne ∙ held.5,
        held.6,
      ),
      omega arith,
    )
  ]

  pub raises : (P : Protocol E (Unit {0}) ℕ) (T : Trails) (e : Event) (a : Answer) → Sits X P m
      → Reached X m T → Happens X m e a m' → Raises
  raises P T (Put s bytes) a sits r h = same_phase s h.sender (put_in h.sender bytes)
      (shown_there (has_stopped m s) (slice_get m.senders s) h.sender h.goes) refl
      (ap (λ (y : Machine E). y.home) h.after) (ap (λ (y : Machine E). y.senders) h.after)
  raises P T (Ask s mark) a sits r h = same_phase s h.sender (mark_in h.sender mark)
      (shown_there (has_stopped m s) (slice_get m.senders s) h.sender h.goes) refl
      (ap (λ (y : Machine E). y.home) h.after) (ap (λ (y : Machine E). y.senders) h.after)
  raises P T (Turn s word) a sits r h = turn_raises X P m m' T sits r s word a h
  raises P T (Recv q) a sits r h = still_there (ap (λ (y : Machine E). y.home) h.after)
      (ap (λ (y : Machine E). y.senders) h.after)
  raises P T (Stop s) a sits r h = still_there (ap (λ (y : Machine E). y.home) h.after)
      (ap (λ (y : Machine E). y.senders) h.after)
  raises P T (Gone q) a sits r h = still_there (ap (λ (y : Machine E). y.home) h.after)
      (ap (λ (y : Machine E). y.senders) h.after)

-- each page of a machine has one floor
pub one_floor : {E : Type 0} (P : Protocol E (Unit {0}) ℕ) (m : Machine E) (T : Trails)
    → IsFramed P m T → (page other : Page) → IsPageOf m page → IsPageOf m other
    → page.floor ≡ other.floor
one_floor P m T f page other has has' = grind arith

-- so the floor of a page rises
pub floors_rise : {E : Type 0} (X : Election E) (P : Protocol E (Unit {0}) ℕ) (m m' : Machine E)
    (T : Trails) (e : Event) (a : Answer) → Sits X P m → Reached X m T → Happens X m e a m'
    → FloorsRise m m'
floors_rise X P m m' T e a sits r h page next has has' =
    let w = raises X m m' P T e a sits r h page has in
    let f = framed X P m' (trails_grown X m e a T) (sits_after X P m m' e a h sits)
    (Then m m' T e a r h) in
    let same = one_floor P m' (trails_grown X m e a T) f w.0 next w.1 has' in
    let higher = w.2 in omega arith
