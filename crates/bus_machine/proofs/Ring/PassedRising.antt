-- Whatever happens, no passed place falls: a sender stores in none, and a receiver only in its own,
-- where it stores a place that is no less than what it shows, or 2^64 - 1.
use Rattle.std.proofs.Common.{◌≡◌, ◌≢◌, inl, inr, ℕ, ◌+◌, ◌*◌, ◌<◌, ◌≤◌, Option, Some, None, false}
use Rattle.std.proofs.Common.{nat_lt, List, length, slice_get, slice_index, slice_set, arith, refl}
use Rattle.std.proofs.Common.{sym, ◌∙◌, ap, subst}
use Rattle.std.proofs.lemmas.Bool.{cases_eq, ltb-true}
use Rattle.std.proofs.lemmas.List.{get_or-set_same, get_or-set_other}
use Rattle.std.proofs.lemmas.Option.{same_Some}
use Rattle.std.proofs.lemmas.Grind.{common_steps}
use Rattle.bus_core.specs.Reusing.Participants.{sizes_with}
use Rattle.bus_core.specs.Senders.{Sender, Situation, Does, Announces, Validates, Unpins, Withdraws}
use Rattle.bus_core.specs.Senders.{Scans, Clears, ReadsPassed, passed_start, situation}
use Rattle.bus_core.specs.Table.{line, presence_of}
use Rattle.bus_core.specs.declared.limits.TheConstants.{PASSED_APART}
use Rattle.bus_deliverylog.specs.Receiving.{Receiving, passing_due, receiving_op, leaving_op}
use Rattle.bus_presence.specs.Reclamation.{ReclamationSizes, row_of}
use Rattle.bus_register.specs.Protocol.{Protocol}
use Rattle.bus_register.specs.Words.{register}
use Rattle.bus_register.specs.declared.limits.TheConstants.{PASSED_ALL}
use Rattle.bus_register.specs.declared.registers.Op.{Op}
use Rattle.bus_register.specs.declared.registers.Op.TheVariants.{Load, Store}
use Rattle.bus_tenure.specs.Core.{Election, stage_at}
use Rattle.bus_tenure.specs.Situations.{IsClosed, IsIdle, IsSpent, LooksAtStage, Elects, TakesPage}
use Rattle.bus_tenure.specs.Situations.{AwaitsPage, StoresWord, StoresLength, GivesBack, HasHanded}
use Rattle.bus_world.proofs.Bounds.{words_low}
use Rattle.bus_world.proofs.CyclicProtocolWords.{behind_rows}
use Rattle.bus_world.proofs.LogLaws.{length-logged}
use Rattle.bus_world.proofs.Stopping.{shown_there}
use Rattle.bus_world.specs.Floors.{passed_place}
use Rattle.bus_world.specs.Turning.{words_after}
use Rattle.bus_world.specs.World.{Event, Put, Ask, Turn, Recv, Stop, Gone}
use Rattle.bus_world.specs.declared.events.Answer.{Answer}
use Rattle.bus_machine.proofs.Bases.AtNone.{flat_at_none, passed_first, passes_by}
use Rattle.bus_machine.proofs.Tenures.Clearing.{clearing, clears_at}
use Rattle.bus_machine.proofs.Frames.Framed.{IsFramed, framed, reuses}
use Rattle.bus_machine.proofs.Frames.Knowing.{its_part, its_start}
use Rattle.bus_machine.proofs.Bases.Leading.{Sits, two_rows}
use Rattle.bus_machine.proofs.Onward.StageRises.{loads_same}
use Rattle.bus_machine.specs.Machine.{Machine, Trails, Reached, TakesTurn, Happens, IsOnWord}
use Rattle.bus_machine.specs.Machine.{has_stopped, log_place, passed_by}
use Rattle.bus_machine.specs.Promise.{PassedRise, ReusesRows, ReusesSafely, reclamation_of}

-- this word is the passed place of a number, of a machine that uses so many rows again
record IsPassedPlace {E : Type 0} (m : Machine E) (r place : ℕ) : Type 0 where
  rows : ℕ
  used : m.reuse ≡ Some rows
  two : 2 ≤ rows
  below : r < m.layout.passers
  is : passed_place m.layout rows r ≡ place

passed_there : {E : Type 0} (X : Election E) (P : Protocol E (Unit {0}) ℕ) (m : Machine E)
    (T : Trails) → Sits X P m → Reached X m T → (r place : ℕ)
    → passed_by m.layout m.reuse r ≡ Some place → IsPassedPlace m r place
passed_there {E} X P m T sits reached r place e =
    grind (arith, common_steps, nat_lt, two_rows, ltb-true, same_Some, passed_first, flat_at_none)

-- ---- a turn of sender s stores in no passed place
module _ {E : Type 0} (X : Election E) (P : Protocol E (Unit {0}) ℕ) (m m' : Machine E) (T : Trails)
    (sits : Sits X P m) (f : IsFramed P m T)
    (u : ReusesSafely X m T m.reuse) (r place : ℕ) (w : IsPassedPlace m r place) (s word : ℕ)
    (a : Answer) (h : TakesTurn X m s word a m') where
  abbrev v : Sender E
  v = h.sender

  abbrev sizes : ReclamationSizes
  sizes = sizes_with m.layout w.rows

  -- the sender is there
  at : slice_get m.senders s ≡ Some v
  at = shown_there (has_stopped m s) (slice_get m.senders s) v h.goes

  its : ReusesRows X m T w.rows
  its = subst (ReusesSafely X m T) w.used u

  -- the place is none of a row
  beside_rows : (t n : ℕ) → row_of sizes t ≤ n → n < row_of sizes t + m.layout.width → place ≢ n
  beside_rows t n low high same = grind (arith, common_steps, behind_rows)

  -- it shows what it showed
  abbrev Shows : Situation E → Type 0
  Shows z =
      slice_index (words_after m.words ((line X v z).op word)) place ≡ slice_index m.words place

  -- without a step
  idles : (z : Situation E) → (line X v z).op word ≡ None → Shows z
  idles z due = ap (λ o. slice_index (words_after m.words o) place) due

  -- with a load
  loads : (z : Situation E) (n : ℕ) → situation X v ≡ z
      → (line X v z).op word ≡ Some (Load record { 0 = n })
      → Shows z
  loads z n i due = grind (arith, common_steps, length, slice_index, loads_same)

  -- with a step on another word
  beside : (z : Situation E) (o : Op) → (line X v z).op word ≡ Some o → place ≢ register o
      → Shows z
  beside z o due apart = grind (arith, common_steps, slice_index, get_or-set_other, register)

  -- with a store of its presence
  presences : (z : Situation E) (n : ℕ)
      → (line X v z).op word ≡ Some (Store record { 0 = presence_of v.core } n) → Shows z
  presences z n due =
      let part = its_part X P m T f s v at in
      grind (arith, common_steps, beside)

  -- with a store of the length or of the stage
  firsts : (z : Situation E) (k n : ℕ) → (line X v z).op word ≡ Some (Store record { 0 = k } n)
      → k < 2
      → Shows z
  firsts z k n due low =
      let is = w.is in beside z (Store record { 0 = k } n) due (λ e. omega arith)

  -- ---- whatever the turn is
  by_turn : (z : Situation E) → situation X v ≡ z → Shows z
  by_turn (Does IsClosed) i = idles (Does IsClosed) refl
  by_turn (Does IsIdle) i = idles (Does IsIdle) refl
  by_turn (Does IsSpent) i = idles (Does IsSpent) refl
  by_turn (Does LooksAtStage) i = loads (Does LooksAtStage) stage_at i refl
  by_turn (Does (Elects t e)) i = by_op ((line X v (Does (Elects t e))).op word) refl where
    by_op : (d : Option Op) → (line X v (Does (Elects t e))).op word ≡ d → Shows (Does (Elects t e))
    by_op None due = idles (Does (Elects t e)) due
    by_op (Some o) due =
        let low = its.within s t word v e o at i (ap (λ z. (line X v z).op word) i ∙ due) in
        beside (Does (Elects t e)) o due (beside_rows t (register o) low.0 low.1)
  by_turn (Does (TakesPage t)) i =
      firsts (Does (TakesPage t)) stage_at (2 * t + 1) refl (omega arith)
  by_turn (Does (AwaitsPage t)) i = idles (Does (AwaitsPage t)) refl
  by_turn (Does (StoresWord t page stored)) i =
      let start = its_start X P m T f s v at ∙ ap (log_place m.layout) w.used in
      grind (arith, common_steps, beside, slice_index)
  by_turn (Does (StoresLength t page stored)) i = grind (arith, common_steps, firsts)
  by_turn (Does (GivesBack t page reason)) i =
      firsts (Does (GivesBack t page reason)) stage_at (2 * t + 2) refl (omega arith)
  by_turn (Does (HasHanded t reason)) i =
      firsts (Does (HasHanded t reason)) stage_at (2 * t + 2) refl (omega arith)
  by_turn (Announces t) i = presences (Announces t) (1 + t) refl
  by_turn (Validates t) i = loads (Validates t) stage_at i refl
  by_turn (Unpins t) i = presences (Unpins t) 0 refl
  by_turn (Withdraws t) i = presences (Withdraws t) 0 refl
  by_turn (Scans q) i = loads (Scans q) (q.presences + q.scanned) i refl
  by_turn (ReadsPassed t p) i = loads (ReadsPassed t p)
      (passed_start v.core.layout v.reuse + PASSED_APART * p.loaded) i refl
  by_turn (Clears q) i =
      let c = clearing X v q i in
      let mine : its.reclaimer ≡ Some q = sym (its.holder s v c.tenure at c.held) ∙ c.reclaims in
      let spot = clears_at sizes (reclamation_of m its.reclaimer) T.pins its.safe q mine c.step in
      beside (Clears q) (Store record { 0 = q.row + q.cleared } 0) refl
      (λ e. behind_rows m.layout w.rows w.two _ spot.0 r spot.2 (w.is ∙ e ∙ spot.1))

  -- so of the turn that it takes
  turned : slice_index m'.words place ≡ slice_index m.words place
  turned =
      ap (λ (y : Machine E). slice_index y.words place) h.after ∙ by_turn (situation X v) refl

-- ---- whatever happens
module _ {E : Type 0} (X : Election E) (P : Protocol E (Unit {0}) ℕ) (m m' : Machine E) (T : Trails)
    (sits : Sits X P m) (reached : Reached X m T) (f : IsFramed P m T)
    (u : ReusesSafely X m T m.reuse) (r place : ℕ)
    (is : passed_by m.layout m.reuse r ≡ Some place) where
  abbrev Rises : List ℕ → Type 0
  Rises words = slice_index m.words place ≤ slice_index words place

  becomes : (words : List ℕ) → m'.words ≡ words → Rises words → Rises m'.words
  becomes words same up = subst Rises (sym same) up

  -- words that are as before
  same_words : m'.words ≡ m.words → Rises m'.words
  same_words same = becomes m.words same (omega arith)

  -- ---- a step of a receiver that has not left
  module _ (q : ℕ) (v : Receiving) (at : slice_get m.receivers q ≡ Some v)
      (stays : v.gone ≡ false) where
    -- its place is no 2^64 - 1, since no log is so long
    few : v.place ≤ PASSED_ALL
    few =
        let own = (f.reads q v at).1.receives in
        grind (arith, common_steps, length-logged, words_low)

    -- a store in its passed place, of its place or of a number past it
    stores : (spot n : ℕ) → v.passed_at ≡ Some spot → spot < length m.words → v.place ≤ n
        → Rises (words_after m.words (Some (Store record { 0 = spot } n)))
    stores spot n own low past = elim (cases_eq place spot) [
      | inl same ↦ grind (arith, at, passes_by, slice_index, slice_set, get_or-set_same)
      | inr ne ↦ (let now = get_or-set_other m.words spot place n 0 ne in omega arith)
    ]

    due_there : (spot : ℕ) → passing_due v ≡ Some spot → v.passed_at ≡ Some spot
    due_there spot = grind (arith, common_steps, nat_lt)

    hears_on : IsOnWord m (receiving_op v) → Rises (words_after m.words (receiving_op v))
    hears_on = grind (arith, common_steps, loads, length, loads_same, stores, due_there)

    leaves_on : IsOnWord m (leaving_op v) → Rises (words_after m.words (leaving_op v))
    leaves_on = grind (arith, common_steps, stores, few)

  event_raises : (e : Event) (a : Answer) → Happens X m e a m' → Rises m'.words
  event_raises (Put s bytes) a h = same_words (ap (λ (y : Machine E). y.words) h.after)
  event_raises (Ask s asked) a h = same_words (ap (λ (y : Machine E). y.words) h.after)
  event_raises (Turn s word) a h =
      let same = turned X P m m' T sits f u r place
      (passed_there X P m T sits reached r place is) s word a h in
      omega arith
  event_raises (Recv q) a h = grind (arith, common_steps, becomes, hears_on)
  event_raises (Stop s) a h = same_words (ap (λ (y : Machine E). y.words) h.after)
  event_raises (Gone q) a h = grind (arith, common_steps, becomes, leaves_on)

-- by trails that lead to the machine before it
pub passed_rise : {E : Type 0} (X : Election E) (P : Protocol E (Unit {0}) ℕ) (m m' : Machine E)
    (T : Trails) (e : Event) (a : Answer) → Sits X P m → Reached X m T → Happens X m e a m'
    → PassedRise m m'
passed_rise X P m m' T e a s r h q place is =
    event_raises X P m m' T s r (framed X P m T s r) (reuses X P m T s r) q place is e a h
