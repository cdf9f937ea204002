-- What a holder remembers of the passed places is the least of them, and the page gets its floor by
-- that.
use Rattle.std.proofs.Common.{◌≡◌, ℕ, ◌+◌, ◌-◌, ◌^◌, ◌<◌, ◌≤◌, Bool, true, false, cond, List, []}
use Rattle.std.proofs.Common.{◌∷◌, length, nat_lt, inl, inr, refl, ◌∙◌, ap, arith, sym, subst}
use Rattle.std.proofs.Common.{Option, Some, None, IfSome, ◌==◌}
use Rattle.std.proofs.lemmas.Bool.{ltb-true, ltb-false}
use Rattle.std.proofs.lemmas.Bool.Decides.{eqb_tells}
use Rattle.bus_register.specs.declared.limits.TheConstants.{PLACES}
use Rattle.bus_core.specs.Reusing.Passing.{passing_begun, passing_fed, passing_over, core_passed}
use Rattle.bus_core.specs.Reusing.Passing.{core_over, AreBehind, GivesLeast, GivesFloor}
use Rattle.bus_core.specs.declared.reuses.Passing.{Passing}
use Rattle.bus_core.specs.Loading.{KeepsFloor}
use Rattle.bus_core.specs.Senders.{Sender, Situation, ReadsPassed}
use Rattle.bus_core.specs.Table.{line, line_now, reuse_passed}
use Rattle.bus_core.specs.declared.reuses.Reuse.{Reuse}
use Rattle.bus_tenure.specs.Core.{Core, Election}
use Rattle.bus_tenure.specs.Keeping.{SenderInvariant}
use Rattle.bus_tenure.specs.Seen.{floor_in}
use Rattle.bus_tenure.specs.Situations.{core_floored, phase_floored, lesser}
use Rattle.bus_tenure.specs.declared.pages.Page.{Page}
use Rattle.bus_tenure.specs.declared.phases.Phase.{Phase}
use Rattle.bus_tenure.specs.declared.phases.Phase.TheVariants.{Resting, Electing, Taken, Holding}
use Rattle.bus_tenure.specs.declared.phases.Phase.TheVariants.{Giving}
use Rattle.bus_tenure.proofs.Floors.{floor_kept}

-- the lesser one of two numbers
record IsLesser (a b n : ℕ) : Type 0 where
  first : n ≤ a
  second : n ≤ b
  most : (m : ℕ) → m ≤ a → m ≤ b → m ≤ n

lesser_is : (a b : ℕ) → IsLesser a b (lesser a b)
lesser_is a b = by (nat_lt a b) refl where
  by : (c : Bool) → nat_lt a b ≡ c → IsLesser a b (cond c a b)
  by true e =
      let low = ltb-true a b e in
      record { first = omega arith; second = omega arith; most = λ m x y. x }
  by false e =
      let high = ltb-false a b e in
      record { first = omega arith; second = omega arith; most = λ m x y. y }

pub gives_least : (p : Passing) (places : List ℕ) → GivesLeast p places
gives_least p [] =
    record { loaded = omega arith; within = omega arith; below = tt; greatest = λ m x y. x }
gives_least p (place ∷ places) =
    let h = gives_least (passing_fed p place) places in
    let l = lesser_is place p.least in
    let loaded = h.loaded in
    let within = h.within in
    let first = l.first in
    let second = l.second in
    record {
      loaded = omega arith;
      within = omega arith;
      below = (omega arith, h.below);
      greatest = λ m x y. h.greatest m (l.most m y.0 x) y.1;
    }

-- ---- the floor that the page gets by it
behind_lower : (n m : ℕ) (places : List ℕ) → n ≤ m → AreBehind m places → AreBehind n places
behind_lower n m [] low h = tt
behind_lower n m (place ∷ places) low h =
    (let first = h.0 in omega arith, behind_lower n m places low h.1)

module _ {E : Type 0} where
  -- one that is not the last changes nothing
  passed_before : (c : Core E) (p : Passing) → p.loaded < c.layout.passers → core_passed c p ≡ c
  passed_before c p early = elim (eqb_tells p.loaded c.layout.passers) [
    | inl y ↦ absurd (let same = y.1 in omega arith)
    | inr y ↦ ap (λ q. cond q (core_floored c p.least) c) y.0
  ]

  passed_last : (c : Core E) (p : Passing) → p.loaded ≡ c.layout.passers
      → core_passed c p ≡ core_floored c p.least
  passed_last c p last = elim (eqb_tells p.loaded c.layout.passers) [
    | inl y ↦ ap (λ q. cond q (core_floored c p.least) c) y.0
    | inr y ↦ absurd (y.1 last)
  ]

  over_before : (c : Core E) (p : Passing) (places : List ℕ)
      → p.loaded + length places < c.layout.passers → core_over c p places ≡ c
  over_before c p [] early = refl
  over_before c p (place ∷ places) early =
      let q = passing_fed p place in
      ap (λ d. core_over d q places) (passed_before c q (omega arith))
      ∙ over_before c q places (omega arith)

  over_all : (c : Core E) (p : Passing) (place : ℕ) (places : List ℕ)
      → p.loaded + length (place ∷ places) ≡ c.layout.passers
      → core_over c p (place ∷ places)
      ≡ core_floored c (passing_over p (place ∷ places)).least
  over_all c p place [] all = passed_last c (passing_fed p place) (omega arith)
  over_all c p place (next ∷ places) all =
      let q = passing_fed p place in
      ap (λ d. core_over d q (next ∷ places)) (passed_before c q (omega arith))
      ∙ over_all c q next places (omega arith)

  pub gives_floor : (c : Core E) (t : ℕ) (page : Page) (stored : ℕ) (published : Bool)
      (places : List ℕ) → c.phase ≡ Holding t page stored published → 0 < c.layout.passers
      → length places ≡ c.layout.passers → GivesFloor c t page stored published places
  gives_floor c t page stored published [] holds some all = absurd (omega arith)
  gives_floor c t page stored published (place ∷ places) holds some all =
      let k = gives_least passing_begun (place ∷ places) in
      let least = (passing_over passing_begun (place ∷ places)).least in
      let inner = lesser_is least page.words in
      let outer = lesser_is (lesser least page.words) PLACES in
      let one = inner.first in
      let two = inner.second in
      let low = outer.first in
      record {
        before = λ fewer early. over_before c passing_begun fewer (omega arith);
        floor = lesser (lesser least page.words) PLACES;
        after =
            over_all c passing_begun place places (omega arith)
            ∙ ap (λ ph. record c { phase = phase_floored least ph }) holds;
        behind = behind_lower (lesser (lesser least page.words) PLACES) least (place ∷ places)
            (omega arith) k.below;
        within = omega arith;
        few = outer.second;
        furthest = λ n words few each.
            outer.most n (inner.most n (k.greatest n (few_begun n few) each) words) few;
        rises = λ kept each. outer.most page.floor (inner.most page.floor
            (k.greatest page.floor (few_begun page.floor kept.few) each) kept.behind) kept.few;
      } where
        few_begun : (n : ℕ) → n ≤ PLACES → n ≤ 2 ^ 64 - 1
        few_begun n few = omega arith

-- ---- and that it does not fall
module _ {E : Type 0} where
  -- a floor that a page gets is no further than this place
  floored_within : (least : ℕ) (ph : Phase E) → floor_in (phase_floored least ph) ≤ least
  floored_within least Resting = omega arith
  floored_within least (Electing t e) = omega arith
  floored_within least (Taken t) = omega arith
  floored_within least (Holding t page stored published) =
      let inner = (lesser_is least page.words).first in
      let outer = (lesser_is (lesser least page.words) PLACES).first in
      omega arith
  floored_within least (Giving t reason) = omega arith

  passed_rises : (width : ℕ) (Belongs : ℕ → E → Type 0) (c : Core E) (p : Passing)
      → SenderInvariant width Belongs c → floor_in c.phase ≤ p.least
      → (floor_in c.phase ≤ floor_in (core_passed c p).phase)
      × (floor_in (core_passed c p).phase ≤ p.least)
  passed_rises width Belongs c p k low = by (p.loaded == c.layout.passers) where
    by : (b : Bool) → (floor_in c.phase ≤ floor_in (cond b (core_floored c p.least) c).phase)
        × (floor_in (cond b (core_floored c p.least) c).phase ≤ p.least)
    by true = (floor_kept width Belongs c p.least k low, floored_within p.least c.phase)
    by false = (omega arith, low)

  pub line_keeps_floor : (X : Election E) (v : Sender E) (width : ℕ) (Belongs : ℕ → E → Type 0)
      (got word : ℕ) → SenderInvariant width Belongs v.core
      → KeepsFloor X v got ((line_now X v).fed got word)
  line_keeps_floor X v width Belongs got word k t p at low = subst Goes (sym at) here where
    Goes : Situation E → Type 0
    Goes z =
        (floor_in v.core.phase ≤ floor_in ((line X v z).fed got word).core.phase)
        × IfSome ((line X v z).fed got word).reuse
        (λ r. floor_in ((line X v z).fed got word).core.phase ≤ r.passed.least)

    risen : (floor_in v.core.phase ≤ floor_in (core_passed v.core (passing_fed p got)).phase)
        × (floor_in (core_passed v.core (passing_fed p got)).phase ≤ (passing_fed p got).least)
    risen = passed_rises width Belongs v.core (passing_fed p got) k low

    within : (o : Option Reuse) → IfSome (reuse_passed o (passing_fed p got))
        (λ r. floor_in (core_passed v.core (passing_fed p got)).phase ≤ r.passed.least)
    within None = tt
    within (Some r) = risen.1

    here : Goes (ReadsPassed t p)
    here = (risen.0, within v.reuse)
