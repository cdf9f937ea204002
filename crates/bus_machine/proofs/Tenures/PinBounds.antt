-- Where rows are used again a sender takes three steps at most for its pin of a tenure. Those that
-- it took and those that it may take yet are never more, as with the steps towards a page.
use Rattle.std.proofs.Common.{◌≡◌, ◌≢◌, ◌⊎◌, inl, inr, ℕ, ◌+◌, ◌/◌, ◌<◌, ◌≤◌, Bool, true, false}
use Rattle.std.proofs.Common.{cond, ◌==◌, nat_le, Option, Some, None, List, [], ◌∷◌, ◌++◌}
use Rattle.std.proofs.Common.{slice_get, arith, refl, sym, ◌∙◌, ap, subst}
use Rattle.std.specs.Prelude.{IsSomeAnd, IfSome}
use Rattle.std.proofs.lemmas.Bool.Decides.{eqb_tells, nat_tests}
use Rattle.std.proofs.lemmas.List.{append-nil}
use Rattle.std.proofs.lemmas.Grind.{common_steps}
use Rattle.bus_core.proofs.Situated.{IsCalm, GoesCalmly, situation_tells}
use Rattle.bus_core.specs.Keeping.{new_reuse}
use Rattle.bus_core.specs.Senders.{Sender, Situation, Does, Announces, Validates, Unpins, Withdraws}
use Rattle.bus_core.specs.Senders.{Scans, Clears, ReadsPassed, situation}
use Rattle.bus_core.specs.Table.{line, line_now, seen, presence_of, reuse_elected, reuse_taken}
use Rattle.bus_core.specs.Table.{reuse_given, reuse_passed, reuse_pinning, reuse_reclaiming}
use Rattle.bus_core.specs.declared.reuses.Passing.{Passing}
use Rattle.bus_core.specs.declared.reuses.Reuse.{Reuse}
use Rattle.bus_presence.specs.Reclamation.{Entry}
use Rattle.bus_presence.specs.Reclaimers.{Reclaiming}
use Rattle.bus_presence.specs.declared.pins.Pin.{Pin}
use Rattle.bus_presence.specs.declared.pins.Pin.TheVariants.{Away, Announcing, Validating, Pinned}
use Rattle.bus_presence.specs.declared.pins.Pin.TheVariants.{Unpinning, Invalidated}
use Rattle.bus_register.specs.Protocol.{Protocol}
use Rattle.bus_register.specs.declared.registers.Op.TheVariants.{Load, Store}
use Rattle.bus_tenure.specs.Core.{Core, Election, stage_at}
use Rattle.bus_tenure.specs.Seen.{tenure_of}
use Rattle.bus_tenure.specs.Situations.{LooksAtStage, Elects, TakesPage, AwaitsPage, StoresWord}
use Rattle.bus_tenure.specs.Situations.{StoresLength, GivesBack, HasHanded, waits, core_begun}
use Rattle.bus_tenure.specs.Situations.{Situation as Own, situation_of, core_elected, core_floored}
use Rattle.bus_tenure.specs.declared.pages.Page.{Page}
use Rattle.bus_tenure.specs.declared.phases.Phase.{Phase}
use Rattle.bus_tenure.specs.declared.phases.Phase.TheVariants as phase
use Rattle.bus_world.specs.Headline.{Action}
use Rattle.bus_world.specs.Turning.{after_step, core_moved, core_with_page}
use Rattle.bus_world.specs.World.{Turn}
use Rattle.bus_machine.proofs.Bases.AtNone.{fork_rises}
use Rattle.bus_machine.proofs.Memory.EachSender.{OfEach, pins_added, each}
use Rattle.bus_machine.proofs.Tenures.Entering.{entry, entry_from, entry_in, may_enter, pin_is}
use Rattle.bus_machine.proofs.Tenures.Entering.{phase_tells, stands_in, enters}
use Rattle.bus_machine.proofs.Onward.StageRises.{rises}
use Rattle.bus_machine.proofs.Frames.Knowing.{HasPage, passes_held}
use Rattle.bus_machine.proofs.Bases.Leading.{Sits}
use Rattle.bus_machine.specs.Bounding.{named_by, is_tenure, pins_from, steps_of_pin, IsNamedFirst}
use Rattle.bus_machine.specs.Bounding.{PinsAreBounded}
use Rattle.bus_machine.specs.Machine.{Machine, Trails, Reached, IsNew, stage_of, found, moved}
use Rattle.bus_machine.specs.Promise.{pin_of}

-- ---- one more step of a pin
-- the tenure that is named after these steps, one after another
abbrev named_from : Option ℕ → List Entry → Option ℕ
named_from now [] = now
named_from now (e ∷ entries) = named_from (named_by e.op now) entries

named_more : (now : Option ℕ) (es : List Entry) (e : Entry)
    → named_from now (es ++ e ∷ []) ≡ named_by e.op (named_from now es)
named_more now [] e = refl
named_more now (d ∷ es) e = named_more (named_by d.op now) es e

pins_more : (t : ℕ) (now : Option ℕ) (es : List Entry) (e : Entry)
    → pins_from t now (es ++ e ∷ [])
    ≡ pins_from t now es + cond (is_tenure t (named_by e.op (named_from now es))) 1 0
pins_more t now [] e = omega arith
pins_more t now (d ∷ es) e = let later = pins_more t (named_by d.op now) es e in omega arith

-- a presence names its tenure
names : (r t : ℕ) (now : Option ℕ) → named_by (Store record { 0 = r } (1 + t)) now ≡ Some t
names r t now = grind (arith, common_steps, eqb_tells)

-- the first step names one
first_more : (es : List Entry) (e : Entry) (t : ℕ) → named_by e.op (named_from None es) ≡ Some t
    → IsNamedFirst es → IsNamedFirst (es ++ e ∷ [])
first_more [] e t named h = (t, named)
first_more (d ∷ es) e t named h = h

-- ---- the potential: how many steps of its pin of tenure s a sender may take yet
-- of a pin that it has still to begin: three, unless the tenure is past
abbrev room : ℕ → ℕ → ℕ → ℕ
room from stage s = cond (nat_le from s) (cond (nat_le (stage / 2) s) 3 0) 0

-- of the pin that it has begun
abbrev is_of : Pin → ℕ → Bool
is_of Away s = false
is_of (Announcing t) s = t == s
is_of (Validating t) s = t == s
is_of (Pinned t) s = t == s
is_of (Unpinning t) s = t == s
is_of (Invalidated t) s = t == s

abbrev pin_left : Pin → ℕ
pin_left (Announcing t) = 3
pin_left (Validating t) = 2
pin_left u = 1

abbrev due : ℕ → Pin → ℕ → ℕ → ℕ
due from u stage s = cond (is_of u s) (pin_left u) (room from stage s)

-- its tenure is open or past, and it may not begin again the one that it is done with; and where
-- its presence stands, that was stored last
abbrev pub PinFits : ℕ → Pin → ℕ → Option ℕ → Type 0
PinFits from Away stage named = Unit {0}
PinFits from (Announcing t) stage named = t ≤ stage / 2
PinFits from (Validating t) stage named = (t ≤ stage / 2) × (named ≡ Some t)
PinFits from (Pinned t) stage named = (t < from) × (named ≡ Some t)
PinFits from (Unpinning t) stage named = (t < from) × (named ≡ Some t)
PinFits from (Invalidated t) stage named = (t < stage / 2) × (named ≡ Some t)

-- of a sender that may enter tenures from this one on, with this pin and these steps, at this stage
pub record Pins (from : ℕ) (u : Pin) (stage : ℕ) (es : List Entry) : Type 0 where
  pub within : (s : ℕ) → steps_of_pin s es + due from u stage s ≤ 3
  pub fits : PinFits from u stage (named_from None es)
  pub first : IsNamedFirst es

-- ---- in numbers
room_later : (from from' stage stage' s : ℕ) → from ≤ from' → stage ≤ stage'
    → room from' stage' s ≤ room from stage s
room_later from from' stage stage' s more up = grind (arith, nat_tests)

room_past : (from stage t s : ℕ) → (t < from) ⊎ (t < stage / 2)
    → cond (t == s) 1 0 + room from stage s ≤ cond (t == s) 1 (room from stage s)
room_past from stage t s past = grind (arith, nat_tests)

room_open : (from stage t s : ℕ) → from ≤ t → t ≡ stage / 2
    → cond (t == s) 3 (room from stage s) ≤ room from stage s
room_open from stage t s low now = grind (arith, nat_tests)

room_most : (from stage s : ℕ) → room from stage s ≤ 3
room_most from stage s = grind (arith, nat_tests)

below : (t n : ℕ) → t ≤ n → t ≢ n → t < n
below t n low ne = omega arith

spent : (b : Bool) (k n n' : ℕ) → n' ≤ n → cond b 1 0 + cond b k n' ≤ cond b (k + 1) n
spent true k n n' less = omega arith
spent false k n n' less = omega arith

kept_less : (b : Bool) (k n n' : ℕ) → n' ≤ n → cond b k n' ≤ cond b k n
kept_less true k n n' less = omega arith
kept_less false k n n' less = less

-- ---- what a turn leaves
fits_later : (from from' : ℕ) (u : Pin) (stage stage' : ℕ) (named : Option ℕ) → from ≤ from'
    → stage ≤ stage' → PinFits from u stage named → PinFits from' u stage' named
fits_later from from' Away stage stage' named more up k = tt
fits_later from from' (Announcing t) stage stage' named more up k = omega arith
fits_later from from' u stage stage' named more up k = (let a = k.0 in omega arith, k.1)

-- the stage has risen, or fewer tenures are left to it
later : (from from' : ℕ) (u : Pin) (stage stage' : ℕ) (es : List Entry) → from ≤ from'
    → stage ≤ stage' → Pins from u stage es → Pins from' u stage' es
later from from' u stage stage' es more up k =
    grind (arith, common_steps, kept_less, room_later, fits_later)

-- another pin without a step
turned : (from : ℕ) (u u' : Pin) (stage : ℕ) (es : List Entry) → Pins from u stage es
    → ((s : ℕ) → due from u' stage s ≤ due from u stage s)
    → PinFits from u' stage (named_from None es) → Pins from u' stage es
turned from u u' stage es k less fits = grind (arith, common_steps)

-- a step of the pin of tenure t
stepped : (t from from' : ℕ) (u u' : Pin) (stage : ℕ) (es : List Entry) (e : Entry)
    → Pins from u stage es → named_by e.op (named_from None es) ≡ Some t
    → ((s : ℕ) → cond (t == s) 1 0 + due from' u' stage s ≤ due from u stage s)
    → PinFits from' u' stage (Some t) → Pins from' u' stage (es ++ e ∷ [])
stepped t from from' u u' stage es e k named less fits =
    grind (arith, common_steps, pins_more, named_more, first_more)

-- ---- who takes no step of its pin has none, or stands in its tenure
calm_away : (from : ℕ) (u : Pin) (stage : ℕ) (es : List Entry) → IsCalm u → Pins from u stage es
    → Pins from Away stage es
calm_away from u stage es (inl away) k = subst (λ w. Pins from w stage es) away k
calm_away from u stage es (inr p) k = grind (arith, common_steps, turned, room_past)

-- what stands in its tenure may part from it
parts : (t from stage : ℕ) (es : List Entry) → Pins from (Pinned t) stage es
    → Pins from (Unpinning t) stage es
parts t from stage es k = record { within = k.within; fits = k.fits; first = k.first }

-- ---- pins that are set
pin_set : (o : Option Reuse) (u w : Pin) → IsSomeAnd o (λ r. r.pin ≡ u)
    → pin_of (reuse_pinning o w) ≡ w
pin_set None u w bad = absurd bad
pin_set (Some r) u w is = refl

given_same : (r : Option Reuse) → pin_of (reuse_given r) ≡ pin_of r
given_same None = refl
given_same (Some r) = refl

reclaiming_same : (r : Option Reuse) (q : Reclaiming) → pin_of (reuse_reclaiming r q) ≡ pin_of r
reclaiming_same None q = refl
reclaiming_same (Some r) q = refl

passed_same : (r : Option Reuse) (p : Passing) → pin_of (reuse_passed r p) ≡ pin_of r
passed_same None p = refl
passed_same (Some r) p = refl

-- ---- one turn of sender p
module _ {E : Type 0} (X : Election E) (P : Protocol E (Unit {0}) ℕ) (m : Machine E) (T : Trails)
    (sits : Sits X P m) (reached : Reached X m T) (p : ℕ) (v : Sender E)
    (at : slice_get m.senders p ≡ Some v) (old : List Entry)
    (k : Pins (entry v.core) (pin_of v.reuse) (stage_of m) old) (word : ℕ) where
  abbrev got : Situation E → ℕ
  got z = found m (line X v z) word

  abbrev stage : ℕ
  stage = stage_of m

  abbrev Is : Core E → Option Reuse → List Entry → Type 0
  Is c r es = Pins (entry c) (pin_of r) stage es

  abbrev After : Situation E → Type 0
  After z =
      Is (core_moved (after_step (line X v z).move) m.home ((line X v z).fed (got z) word).core)
      ((line X v z).fed (got z) word).reuse (old ++ pins_added z ((line X v z).op word) (got z))

  abbrev now : List Entry
  now = old ++ []

  still : Is v.core v.reuse now
  still = rw (append-nil old) k

  -- it goes on in its tenure, or has left it
  goes_in : (t : ℕ) (ph : Phase E) → v.core.phase ≡ ph → tenure_of ph ≡ Some t → (u : Pin)
      → u ≡ pin_of v.reuse → Pins (t + 1) u stage now
  goes_in t ph is its u same = grind (arith, common_steps, entry_in, entry, still)

  -- ---- a first look at the stage
  calm : (o : Option Reuse) (z : Own E) → IfSome o (λ r. GoesCalmly r z) → IsCalm (pin_of o)
  calm None z g = inl refl
  calm (Some r) z g = g.calm

  module _ (i : situation X v ≡ Does LooksAtStage) where
    at_rest : (least : ℕ) → entry_from (tenure_of v.core.phase) least ≡ least
    at_rest least = ap (λ ph. entry_from (tenure_of ph) least) (phase_tells X v LooksAtStage i)

    away : Pins (entry v.core) Away stage now
    away = calm_away (entry v.core) (pin_of v.reuse) stage now (calm v.reuse (situation_of X v.core)
        (situation_tells X v (Does LooksAtStage) i).1) still

    low : waits v.core stage ≡ false → entry v.core ≤ stage / 2
    low j = let a = at_rest v.core.least in let b = may_enter v.core stage j in omega arith

    opened : (from : ℕ) → waits v.core stage ≡ false → stage / 2 ≤ from → Pins from Away stage now
    opened from j more = grind (arith, common_steps, later, entry, low, away)

    spent_now : waits v.core stage ≡ false
        → Pins (entry_from (tenure_of v.core.phase) (stage / 2)) Away stage now
    spent_now j = opened _ j (let a = at_rest (stage / 2) in omega arith)

    apart : (a b : Bool) → waits v.core stage ≡ a → Is (cond a v.core
        (cond b (record v.core { least = stage / 2 }) (core_begun X v.core (stage / 2)))) None now
    apart true b j = away
    apart false true j = spent_now j
    apart false false j = opened (stage / 2 + 1) j (omega arith)

    again : (a b : Bool) → waits v.core stage ≡ a
        → Pins (entry (cond a v.core (cond b (record v.core { least = stage / 2 }) v.core)))
        (cond a Away (cond b Away (Announcing (stage / 2)))) stage now
    again true b j = away
    again false true j = spent_now j
    again false false j = turned (entry v.core) Away (Announcing (stage / 2)) stage now away
        (λ s. room_open (entry v.core) stage (stage / 2) s (low j) refl) (omega arith)

    looks : (r : Option Reuse) → Is (seen X v.core r stage).core (seen X v.core r stage).reuse now
    looks None = apart (waits v.core stage) (nat_le v.core.layout.rows (stage / 2)) refl
    looks (Some r) = again (waits v.core stage) (nat_le v.core.layout.rows (stage / 2)) refl

  -- ---- in its election
  module _ (t : ℕ) (e : E) (runs : v.core.phase ≡ phase.Electing t e) where
    same_pin : (u : Pin) → pin_of v.reuse ≡ u → Pins (t + 1) u stage now
    same_pin u is = goes_in t (phase.Electing t e) runs refl u (sym is)

    stands : (r : Reuse) → v.reuse ≡ Some r → Pins (t + 1) (Pinned t) stage now
    stands r again = same_pin (Pinned t)
        (ap pin_of again ∙ stands_in X P m T sits reached p v at r again t e runs)

    -- a step of it
    elected : (r : Option Reuse) → v.reuse ≡ r → (e' : E) (own : Option ℕ)
        → Is (core_elected v.core t e' own) (reuse_elected v.core r t own) now
    elected None again e' None = same_pin Away (ap pin_of again)
    elected None again e' (Some o) = grind (arith, common_steps, entry, same_pin)
    elected (Some r) again e' None = stands r again
    elected (Some r) again e' (Some o) = grind (arith, common_steps, entry, stands, parts)

    -- the page is taken
    taken : (r : Option Reuse) → v.reuse ≡ r
        → Is (record v.core { phase = phase.Taken t }) (reuse_taken v.core.layout r t) now
    taken None again = same_pin Away (ap pin_of again)
    taken (Some r) again = parts t (t + 1) stage now (stands r again)

  laid : (t : ℕ) (c : Core E) (r : Option Reuse) → Is (record c { phase = phase.Taken t }) r now
      → (home : Option Page) → Is (core_with_page c t home) r now
  laid t c r is None = is
  laid t c r is (Some page) = is

  -- ---- a step of its pin
  module _ (t : ℕ) (u : Pin) (pins : IsSomeAnd v.reuse (λ r. r.pin ≡ u)) where
    its : Pins (entry v.core) u stage old
    its = subst (λ w. Pins (entry v.core) w stage old) (pin_is v.reuse u pins) k

    sets : (c : Core E) (w : Pin) (e : Entry) → named_by e.op (named_from None old) ≡ Some t
        → ((s : ℕ) → cond (t == s) 1 0 + due (entry c) w stage s ≤ due (entry v.core) u stage s)
        → PinFits (entry c) w stage (Some t) → Is c (reuse_pinning v.reuse w) (old ++ e ∷ [])
    sets c w e named less fits = subst (λ y. Pins (entry c) y stage (old ++ e ∷ []))
        (sym (pin_set v.reuse u w pins))
        (stepped t (entry v.core) (entry c) u w stage old e its named less fits)

  -- a store of its presence
  abbrev stores : ℕ → ℕ → Entry
  stores number found = record { op = Store record { 0 = presence_of v.core } number; got = found }

  validates : (t : ℕ) → situation X v ≡ Validates t → After (Validates t)
  validates t i = by (stage / 2 == t) (eqb_tells (stage / 2) t) where
    pins : IsSomeAnd v.reuse (λ r. r.pin ≡ Validating t)
    pins = situation_tells X v (Validates t) i

    fits : (t ≤ stage / 2) × (named_from None old ≡ Some t)
    fits = (its t (Validating t) pins).fits

    looked : Entry
    looked = record { op = Load record { 0 = stage_at }; got = stage }

    may : (v.core.phase ≡ phase.Resting) × (v.core.least ≤ t)
    may = enters X P m T sits reached p v at t i

    low : entry v.core ≤ t
    low =
        let a = ap (λ ph. entry_from (tenure_of ph) v.core.least) may.0 in
        let b = may.1 in omega arith

    by : (b : Bool) → ((b ≡ true) × (stage / 2 ≡ t)) ⊎ ((b ≡ false) × (stage / 2 ≢ t))
        → Is (cond b (core_begun X v.core t) v.core) (reuse_pinning v.reuse
        (cond b (Pinned t) (Invalidated t)))
        (old ++ looked ∷ [])
    by true is = sets t (Validating t) pins (core_begun X v.core t) (Pinned t) looked fits.1
        (λ s. spent (t == s) 1 (room (entry v.core) stage s) (room (t + 1) stage s)
        (room_later (entry v.core) (t + 1) stage stage s (let a = low in omega arith)
        (omega arith)))
        (omega arith, refl)
    by false (inl bad) = absurd (let no = bad.0 in cc)
    by false (inr is) = sets t (Validating t) pins v.core (Invalidated t) looked fits.1
        (λ s.
        spent (t == s) 1 (room (entry v.core) stage s) (room (entry v.core) stage s) (omega arith))
        (below t (stage / 2) fits.0 (λ j. is.1 (sym j)), refl)

  -- its page gets its floor, or not
  floored : (t : ℕ) → HasPage t v.core.phase → (least : ℕ) (b : Bool)
      → Pins (entry (cond b (core_floored v.core least) v.core)) (pin_of v.reuse) stage now
  floored t h least true = grind (arith, common_steps, entry_from, goes_in)
  floored t h least false = still

  by_turn : (z : Situation E) → situation X v ≡ z → After z
  by_turn (Does LooksAtStage) i = looks i v.reuse
  by_turn (Does (Elects t e)) i =
      elected t e (phase_tells X v (Elects t e) i).0 v.reuse refl
      (X.fed e (got (Does (Elects t e))) word)
      (X.owner (X.fed e (got (Does (Elects t e))) word))
  by_turn (Does (TakesPage t)) i =
      let own = phase_tells X v (TakesPage t) i in
      laid t (record v.core { phase = phase.Taken t }) (reuse_taken v.core.layout v.reuse t)
      (taken t own.0 own.1 v.reuse refl) m.home
  by_turn (Does (AwaitsPage t)) i = laid t v.core v.reuse
      (goes_in t _ (phase_tells X v (AwaitsPage t) i) refl _ refl) m.home
  by_turn (Does (StoresWord t page stored)) i =
      goes_in t _ (phase_tells X v (StoresWord t page stored) i).1 refl _ refl
  by_turn (Does (StoresLength t page stored)) i =
      goes_in t _ (phase_tells X v (StoresLength t page stored) i).1 refl _ refl
  by_turn (Does (GivesBack t page reason)) i =
      goes_in t _ (phase_tells X v (GivesBack t page reason) i).2 refl _ (given_same v.reuse)
  by_turn (Does (HasHanded t reason)) i =
      goes_in t _ (phase_tells X v (HasHanded t reason) i) refl _ (given_same v.reuse)
  by_turn (Announces t) i =
      let pins = situation_tells X v (Announces t) i in
      sets t (Announcing t) pins v.core (Validating t) (stores (1 + t) (got (Announces t)))
      (names (presence_of v.core) t (named_from None old))
      (λ s.
      spent (t == s) 2 (room (entry v.core) stage s) (room (entry v.core) stage s) (omega arith))
      ((its t (Announcing t) pins).fits, refl)
  by_turn (Validates t) i = validates t i
  by_turn (Unpins t) i =
      let pins = situation_tells X v (Unpins t) i in
      let fits = (its t (Unpinning t) pins).fits in
      sets t (Unpinning t) pins v.core Away (stores 0 (got (Unpins t))) fits.1
      (λ s. room_past (entry v.core) stage t s (inl fits.0)) tt
  by_turn (Withdraws t) i =
      let pins = situation_tells X v (Withdraws t) i in
      let fits = (its t (Invalidated t) pins).fits in
      sets t (Invalidated t) pins v.core Away (stores 0 (got (Withdraws t))) fits.1
      (λ s. room_past (entry v.core) stage t s (inr fits.0)) tt
  by_turn (Scans q) i = grind (arith, common_steps, entry, reclaiming_same, still)
  by_turn (Clears q) i = grind (arith, common_steps, entry, reclaiming_same, still)
  by_turn (ReadsPassed t q) i =
      grind (arith, common_steps, entry, passed_same, floored, passes_held)
  by_turn z i = still

-- ---- of all senders
module _ {E : Type 0} (X : Election E) (P : Protocol E (Unit {0}) ℕ) where
  -- what is kept of a sender, and of a number that no sender has
  abbrev Keeps : ℕ → Option (Sender E) → List Entry → Type 0
  Keeps level None es = es ≡ []
  Keeps level (Some v) es = Pins (entry v.core) (pin_of v.reuse) level es

  abbrev K : Machine E → ℕ → Option (Sender E) → List Action → List Entry → Type 0
  K m q o D es = Keeps (stage_of m) o es

  fresh : (level : ℕ) (r : Option ℕ) → Pins 0 (pin_of (new_reuse r)) level []
  fresh level None = grind (arith, common_steps, room_most)
  fresh level (Some rows) = grind (arith, common_steps, room_most)

  starts : (m : Machine E) (q : ℕ) → IsNew m → K m q (slice_get m.senders q) [] []
  starts m q new = grind (arith, common_steps, slice_get, fresh)

  keeps_later : (level level' : ℕ) (o : Option (Sender E)) (es : List Entry) → level ≤ level'
      → Keeps level o es → Keeps level' o es
  keeps_later level level' None es up k = k
  keeps_later level level' (Some v) es up k =
      later (entry v.core) (entry v.core) (pin_of v.reuse) level level' es (omega arith) up k

  -- so it is bounded
  abbrev Bounded : List Entry → Type 0
  Bounded es = ((t : ℕ) → steps_of_pin t es ≤ 3) × IsNamedFirst es

  few : (level : ℕ) (o : Option (Sender E)) (es : List Entry) → Keeps level o es → Bounded es
  few level None es none = subst (λ l. Bounded l) (sym none) ((λ t. omega arith), tt)
  few level (Some v) es k = ((λ t. let a = k.within t in omega arith), k.first)

  -- whatever leads to a machine
  pins_kept : (m : Machine E) (T : Trails) → Sits X P m → Reached X m T
      → OfEach K m m.senders T
  pins_kept = each X P K starts
      (λ m m' T e a t r h q o D es k. keeps_later (stage_of m) (stage_of m') o es
      (rises X P m m' T e a t r h) k)
      (λ m m' i j h q o D es k.
      keeps_later (stage_of m) (stage_of m') o es (fork_rises m m' i j h) k)
      (λ m q v D es bytes a k. k) (λ m q v D es mark a k. k)
      (λ m m' T s word a t r h at k.
      let v = h.sender in
      let l = line_now X v in
      let v' = moved (after_step l.move) m.home (l.fed (found m l word) word) in
      keeps_later (stage_of m) (stage_of m') (Some v') _ (rises X P m m' T (Turn s word) a t r h)
      (by_turn X P m T t r s v at (T.pins s) k word (situation X v) refl))

  pub kept_of : (m : Machine E) (T : Trails) → Sits X P m → Reached X m T → (q : ℕ) (v : Sender E)
      → slice_get m.senders q ≡ Some v
      → Pins (entry v.core) (pin_of v.reuse) (stage_of m) (T.pins q)
  kept_of m T sits r q v at =
      subst (λ o. Keeps (stage_of m) o (T.pins q)) at (pins_kept m T sits r q)

  -- no sender takes more steps of a pin
  pub pins_bounded : (m : Machine E) (T : Trails) → Sits X P m → Reached X m T → PinsAreBounded T
  pins_bounded m T sits r = record { most = λ q t. (of q).0 t; first = λ q. (of q).1 } where
    of : (q : ℕ) → Bounded (T.pins q)
    of q = few (stage_of m) (slice_get m.senders q) (T.pins q) (pins_kept m T sits r q)
