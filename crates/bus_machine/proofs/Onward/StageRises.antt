-- Whatever happens, the stage never falls.
use Rattle.std.proofs.Common.{◌≡◌, ◌≢◌, ℕ, ◌+◌, ◌*◌, ◌<◌, ◌≤◌, is_some, Option, nat_lt, Some, None}
use Rattle.std.proofs.Common.{List, length, slice_get, slice_index, slice_set, arith, refl, sym}
use Rattle.std.proofs.Common.{◌∙◌, ap, subst}
use Rattle.std.proofs.lemmas.Bool.{cases_eq}
use Rattle.std.proofs.lemmas.List.{get_or-set_same, get_or-set_other}
use Rattle.std.proofs.lemmas.Grind.{common_steps}
use Rattle.bus_core.proofs.Situated.{own_is}
use Rattle.bus_deliverylog.specs.Receiving.{Receiving, passing_due, receiving_op, leaving_op}
use Rattle.bus_core.specs.Reusing.Keeping.{held_of}
use Rattle.bus_core.specs.Senders.{Sender, Situation, Does, Announces, Validates, Unpins}
use Rattle.bus_core.specs.Senders.{Withdraws, Scans, Clears, ReadsPassed, log_start}
use Rattle.bus_core.specs.Senders.{passed_start, situation_by, situation}
use Rattle.bus_core.specs.declared.limits.TheConstants.{PASSED_APART}
use Rattle.bus_core.specs.Table.{line, in_row, presence_of}
use Rattle.bus_core.specs.declared.reuses.Reuse.{Reuse}
use Rattle.bus_presence.specs.Reclaimers.{Reclaiming}
use Rattle.bus_register.specs.Protocol.{Protocol}
use Rattle.bus_register.specs.Tables.{of_some}
use Rattle.bus_register.specs.Words.{register}
use Rattle.bus_register.specs.declared.registers.Op.{Op}
use Rattle.bus_register.specs.declared.registers.Op.TheVariants.{Load, Store}
use Rattle.bus_tenure.proofs.Situated.{tells}
use Rattle.bus_tenure.specs.Core.{Election, Layout, stage_at, frame_len}
use Rattle.bus_tenure.specs.Situations.{Situation as Own, IsClosed, IsIdle, IsSpent, LooksAtStage}
use Rattle.bus_tenure.specs.Situations.{Elects, TakesPage, AwaitsPage, StoresWord, StoresLength}
use Rattle.bus_tenure.specs.Situations.{GivesBack, HasHanded, situation_of}
use Rattle.bus_tenure.specs.declared.phases.Phase.TheVariants as phase
use Rattle.bus_world.proofs.TenuresLaws as tenures
use Rattle.bus_world.proofs.Stopping.{shown_there}
use Rattle.bus_world.specs.Private.Sending.{standing_of, stands_at, least_of}
use Rattle.bus_world.specs.Turning.{words_after}
use Rattle.bus_world.specs.World.{Event, Put, Ask, Turn, Recv, Stop, Gone}
use Rattle.bus_world.specs.declared.events.Answer.{Answer}
use Rattle.bus_machine.proofs.Bases.AtNone.{passed_past, passes_by}
use Rattle.bus_machine.proofs.Tenures.Clearing.{clearing, clears_at}
use Rattle.bus_machine.proofs.Frames.Framed.{IsFramed, framed, reuses}
use Rattle.bus_machine.proofs.Frames.Knowing.{its_part}
use Rattle.bus_machine.proofs.Bases.Leading.{Sits}
use Rattle.bus_machine.proofs.Frames.Paging.{takes_it, holds_it}
use Rattle.bus_machine.specs.Machine.{Machine, Trails, Reached, TakesTurn, Happens, IsOnWord}
use Rattle.bus_machine.specs.Machine.{has_stopped, log_place, machine_after, stage_of}
use Rattle.bus_machine.specs.Remembering.{rows_in}
use Rattle.bus_machine.specs.Promise.{ReusesRows, ReusesSafely}

-- a load leaves all words
pub loads_same : (xs : List ℕ) (r q : ℕ) → r < length xs
    → slice_index (slice_set xs r (slice_index xs r)) q ≡ slice_index xs q
loads_same xs r q l =
    grind (arith, common_steps, cases_eq, slice_index, slice_set, get_or-set_same, get_or-set_other)

-- the log begins behind length and stage
pub log_behind : (x : Layout) (o : Option ℕ) → 2 ≤ log_place x o
log_behind x None = omega arith
log_behind x (Some rows) = omega arith

-- so it does for each sender
start_behind : (x : Layout) (o : Option Reuse) → 2 ≤ log_start x o
start_behind x None = omega arith
start_behind x (Some r) = omega arith

-- in another situation than those of its tenure a sender uses rows again
pub reused : {E : Type 0} (n : ℕ) (o : Option Reuse) (y : Own E) (w : Situation E)
    → situation_by n o y ≡ w
    → ((z : Own E) → Does z ≡ w → ⊥)
    → (r : Reuse) × (o ≡ Some r)
reused n None y w i other = absurd (other y i)
reused n (Some r) y w i other = (r, refl)

-- ---- a turn of sender s, by its line
module _ {E : Type 0} (X : Election E) (P : Protocol E (Unit {0}) ℕ) (m m' : Machine E) (T : Trails)
    (sits : Sits X P m) (f : IsFramed P m T)
    (u : ReusesSafely X m T m.reuse) (s word : ℕ) (a : Answer) (h : TakesTurn X m s word a m') where
  abbrev v : Sender E
  v = h.sender

  -- the sender is there
  at : slice_get m.senders s ≡ Some v
  at = shown_there (has_stopped m s) (slice_get m.senders s) v h.goes

  -- the stage does not fall
  abbrev Rises : Situation E → Type 0
  Rises z = stage_of m ≤ stage_of (machine_after m s (line X v z) word)

  -- its step is on a word
  on_word : (z : Situation E) → situation X v ≡ z → IsOnWord m ((line X v z).op word)
  on_word z i = subst (λ y. IsOnWord m ((line X v y).op word)) i h.within

  -- by the words afterwards
  becomes : (z : Situation E) → (w : List ℕ) → words_after m.words ((line X v z).op word) ≡ w
      → stage_of m ≤ slice_index w stage_at → Rises z
  becomes z w is up = subst (λ y. stage_of m ≤ slice_index y stage_at) (sym is) up

  -- without a step
  idles : (z : Situation E) → (line X v z).op word ≡ None → Rises z
  idles z due = becomes z m.words (ap (words_after m.words) due) (omega arith)

  -- with a load
  loads : (z : Situation E) (r : ℕ) → situation X v ≡ z
      → (line X v z).op word ≡ Some (Load record { 0 = r })
      → Rises z
  loads z r i due =
      grind (arith, common_steps, length, on_word, becomes, slice_set, slice_index, loads_same)

  -- with a step on another word than the stage
  beside : (z : Situation E) (o : Op) → (line X v z).op word ≡ Some o → register o ≢ stage_at
      → Rises z
  beside z o due apart =
      grind (arith, common_steps, becomes, slice_index, get_or-set_other, register)

  -- with a store of its presence
  presences : (z : Situation E) (n : ℕ)
      → (line X v z).op word ≡ Some (Store record { 0 = presence_of v.core } n) → Rises z
  presences z n due = beside z (Store record { 0 = presence_of v.core } n) due (λ e. omega arith)

  -- with a store of the stage
  stages : (z : Situation E) (n : ℕ) → situation X v ≡ z
      → (line X v z).op word ≡ Some (Store record { 0 = stage_at } n)
      → stage_of m ≤ n → Rises z
  stages z n i due up =
      grind (arith, common_steps, length, on_word, becomes, slice_set, get_or-set_same)

  -- it clears a word of a row
  clears : (r : Reuse) → v.reuse ≡ Some r → (q : Reclaiming) → situation X v ≡ Clears q
      → Rises (Clears q)
  clears r again q i =
      let same : Some r.rows ≡ m.reuse = sym (ap rows_in again) ∙ f.rows s v at in
      let its : ReusesRows X m T r.rows = subst (ReusesSafely X m T) (sym same) u in
      let c = clearing X v q i in
      grind (arith, at, clears_at, beside)

  -- ---- a step of its election
  module _ (t : ℕ) (e : E) (i : situation X v ≡ Does (Elects t e)) where
    runs : v.core.phase ≡ phase.Electing t e
    runs = (tells X v.core (Elects t e) (own_is X v (Elects t e) i)).0

    -- with a step or without
    by_op : (d : Option Op) → (line X v (Does (Elects t e))).op word ≡ d → Rises (Does (Elects t e))
    by_op None due = idles (Does (Elects t e)) due
    by_op (Some o) due = by_reuse v.reuse refl where
      by_reuse : (r : Option Reuse) → v.reuse ≡ r → Rises (Does (Elects t e))
      by_reuse None apart =
          let next : X.op e word ≡ Some o =
          sym (ap (λ y. in_row v.core.layout y t (X.op e word)) apart) ∙ due in
          let stands =
          ap (of_some standing_of) (f.core_of s v at) ∙ ap (λ y. Some (stands_at y)) runs in
          let low = (tenures.within_its_row X.op X.fed P sits.serves.laws m.layout.senders
          m.layout.rows 2 f.V (f.V 1) (is_some m.home)
          (λ q. of_some standing_of (f.cores q)) (λ q. least_of (f.cores q)) f.owners
          f.sending.tenures s t e word o stands next).1 in
          beside (Does (Elects t e)) o due (λ same. omega arith)
      by_reuse (Some r) again =
          let same : Some r.rows ≡ m.reuse = sym (ap rows_in again) ∙ f.rows s v at in
          let its : ReusesRows X m T r.rows = subst (ReusesSafely X m T) (sym same) u in
          let low = (its.within s t word v e o at i (ap (λ z. (line X v z).op word) i ∙ due)).0 in
          beside (Does (Elects t e)) o due (λ same. omega arith)

  -- ---- whatever the turn is
  by_turn : (z : Situation E) → situation X v ≡ z → Rises z
  by_turn (Does IsClosed) i = idles (Does IsClosed) refl
  by_turn (Does IsIdle) i = idles (Does IsIdle) refl
  by_turn (Does IsSpent) i = idles (Does IsSpent) refl
  by_turn (Does LooksAtStage) i = loads (Does LooksAtStage) stage_at i refl
  by_turn (Does (Elects t e)) i = by_op t e i ((line X v (Does (Elects t e))).op word) refl
  by_turn (Does (TakesPage t)) i =
      let open_now = (takes_it X P m T sits f s v t at i).stage in
      stages (Does (TakesPage t)) (2 * t + 1) i refl (omega arith)
  by_turn (Does (AwaitsPage t)) i = idles (Does (AwaitsPage t)) refl
  by_turn (Does (StoresWord t page stored)) i =
      grind (arith, common_steps, start_behind, beside, slice_index)
  by_turn (Does (StoresLength t page stored)) i = beside (Does (StoresLength t page stored))
      (Store record { 0 = 0 } (page.words + frame_len v.core)) refl (λ e. omega arith)
  by_turn (Does (GivesBack t page reason)) i =
      let held = ap held_of
      (tells X v.core (GivesBack t page reason) (own_is X v (GivesBack t page reason) i)).2 in
      let stage = holds_it X P m T sits f s v t at held in
      stages (Does (GivesBack t page reason)) (2 * t + 2) i refl (omega arith)
  by_turn (Does (HasHanded t reason)) i = grind (arith, common_steps, tells, own_is, its_part, at)
  by_turn (Announces t) i = presences (Announces t) (1 + t) refl
  by_turn (Validates t) i = loads (Validates t) stage_at i refl
  by_turn (Unpins t) i = presences (Unpins t) 0 refl
  by_turn (Withdraws t) i = presences (Withdraws t) 0 refl
  by_turn (Scans q) i = loads (Scans q) (q.presences + q.scanned) i refl
  by_turn (ReadsPassed t p) i = loads (ReadsPassed t p)
      (passed_start v.core.layout v.reuse + PASSED_APART * p.loaded) i refl
  by_turn (Clears q) i =
      let r =
      reused v.core.layout.passers v.reuse (situation_of X v.core) (Clears q) i (λ y e. cc) in
      clears r.0 r.1 q i

  -- so of the turn that it takes
  turned : stage_of m ≤ stage_of m'
  turned = subst (λ y. stage_of m ≤ stage_of y) (sym h.after) (by_turn (situation X v) refl)

-- ---- whatever happens
module _ {E : Type 0} (X : Election E) (P : Protocol E (Unit {0}) ℕ) (m m' : Machine E) (T : Trails)
    (sits : Sits X P m) (reached : Reached X m T) (f : IsFramed P m T)
    (u : ReusesSafely X m T m.reuse) where
  -- words that are as before
  same_words : m'.words ≡ m.words → stage_of m ≤ stage_of m'
  same_words is = let same = ap (λ w. slice_index w stage_at) is in omega arith

  -- ---- a step of a receiver
  -- a passed place is another word than the stage
  apart : (r : ℕ) (v : Receiving) → slice_get m.receivers r ≡ Some v → (place : ℕ)
      → v.passed_at ≡ Some place → stage_at ≢ place
  apart r v at place is same = grind (arith, passed_past, passes_by)

  -- a store in it leaves the stage
  stores_beside : (place n : ℕ) → stage_at ≢ place
      → slice_index (words_after m.words (Some (Store record { 0 = place } n))) stage_at
      ≡ stage_of m
  stores_beside place n ne = get_or-set_other m.words place stage_at n 0 ne

  due_there : (v : Receiving) (place : ℕ) → passing_due v ≡ Some place → v.passed_at ≡ Some place
  due_there v place = grind (arith, common_steps, nat_lt)

  hears_on : (r : ℕ) (v : Receiving) → slice_get m.receivers r ≡ Some v
      → IsOnWord m (receiving_op v)
      → slice_index (words_after m.words (receiving_op v)) stage_at ≡ stage_of m
  hears_on r v at = grind (arith, slice_index, loads_same, stores_beside, apart, due_there)

  leaves_on : (r : ℕ) (v : Receiving) → slice_get m.receivers r ≡ Some v
      → slice_index (words_after m.words (leaving_op v)) stage_at ≡ stage_of m
  leaves_on r v at = grind (arith, slice_index, stores_beside, apart)

  heard_rises : (w : List ℕ) → m'.words ≡ w → slice_index w stage_at ≡ stage_of m
      → stage_of m ≤ stage_of m'
  heard_rises w is same = let now = ap (λ l. slice_index l stage_at) is in omega arith

  event_rises : (e : Event) (a : Answer) → Happens X m e a m' → stage_of m ≤ stage_of m'
  event_rises (Put s bytes) a h = same_words (ap (λ (y : Machine E). y.words) h.after)
  event_rises (Ask s asked) a h = same_words (ap (λ (y : Machine E). y.words) h.after)
  event_rises (Turn s word) a h = turned X P m m' T sits f u s word a h
  event_rises (Recv r) a h = heard_rises (words_after m.words (receiving_op h.receiver))
      (ap (λ (y : Machine E). y.words) h.after) (hears_on r h.receiver h.there h.within)
  event_rises (Stop s) a h = same_words (ap (λ (y : Machine E). y.words) h.after)
  event_rises (Gone r) a h = heard_rises (words_after m.words (leaving_op h.receiver))
      (ap (λ (y : Machine E). y.words) h.after) (leaves_on r h.receiver h.there)

-- by trails that lead to the machine before it
pub rises : {E : Type 0} (X : Election E) (P : Protocol E (Unit {0}) ℕ) (m m' : Machine E)
    (T : Trails) (e : Event) (a : Answer) → Sits X P m → Reached X m T → Happens X m e a m'
    → stage_of m ≤ stage_of m'
rises X P m m' T e a s r h =
    event_rises X P m m' T s r (framed X P m T s r) (reuses X P m T s r) e a h
