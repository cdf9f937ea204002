-- How a holder whose frame does not fit the log goes through the passed places of all receivers, by
-- which the page gets its floor.
use Rattle.std.specs.Prelude.{◌≡◌, ℕ, ◌+◌, ◌-◌, ◌^◌, ◌≤◌, Bool, Option, Some, None, List, [], ◌∷◌}
use Rattle.std.specs.Prelude.{◌<◌, length, nat_lt, ◌==◌, if◌then◌else◌}
use Rattle.bus_register.specs.declared.limits.TheConstants.{PLACES}
use Rattle.bus_tenure.specs.Core.{Core}
use Rattle.bus_tenure.specs.Paging.{PageKeeps}
use Rattle.bus_tenure.specs.Situations.{core_floored, lesser}
use Rattle.bus_tenure.specs.declared.pages.Page.{Page}
use Rattle.bus_tenure.specs.declared.phases.Phase.TheVariants.{Holding}
use Rattle.bus_core.specs.declared.reuses.Passing.{Passing}

-- none is loaded in the tenure
abbrev pub passing_begun : Passing
passing_begun = record { loaded = 0; least = 2 ^ 64 - 1 }

-- of so many passed places one is left to load
abbrev pub passing_left : ℕ → Passing → Option Passing
passing_left passers p = if nat_lt p.loaded passers then Some p else None

-- one more is loaded, and is this
abbrev pub passing_fed : Passing → ℕ → Passing
passing_fed p got = record {
  loaded = p.loaded + 1;
  least = lesser got p.least;
}

-- the page gets its floor with the last one
abbrev pub core_passed : {E : Type 0} → Core E → Passing → Core E
core_passed c p = if p.loaded == c.layout.passers then core_floored c p.least else c

-- ---- all of them
-- these are loaded, one after another
abbrev pub passing_over : Passing → List ℕ → Passing
passing_over p [] = p
passing_over p (place ∷ places) = passing_over (passing_fed p place) places

-- none of these lies before this place
abbrev pub AreBehind : ℕ → List ℕ → Type 0
AreBehind least [] = Unit {0}
AreBehind least (place ∷ places) = (least ≤ place) × AreBehind least places

-- so many more are loaded, and the least is that of all: no more than each, and no number that is
-- no more than each is more
pub record GivesLeast (p : Passing) (places : List ℕ) : Type 0 where
  pub loaded : (passing_over p places).loaded ≡ p.loaded + length places
  pub within : (passing_over p places).least ≤ p.least
  pub below : AreBehind (passing_over p places).least places
  pub greatest : (least : ℕ) → least ≤ p.least → AreBehind least places
      → least ≤ (passing_over p places).least

-- ---- the floor
-- what a sender is after it has loaded these, one after another
abbrev pub core_over : {E : Type 0} → Core E → Passing → List ℕ → Core E
core_over c p [] = c
core_over c p (place ∷ places) =
    core_over (core_passed c (passing_fed p place)) (passing_fed p place) places

-- With the last of as many as there are, and no earlier one, the page that a holder has gets this
-- floor, and nothing else changes: it is no further than each of these places, than the words of
-- the page and than the last of the places that there are, and the furthest that is so. So it does
-- not fall where none of these places lies before the floor that the page had.
pub record GivesFloor {E : Type 0} (c : Core E) (t : ℕ) (page : Page) (stored : ℕ)
    (published : Bool) (places : List ℕ) : Type 0 where
  pub before : (some : List ℕ) → length some < c.layout.passers
      → core_over c passing_begun some ≡ c
  pub floor : ℕ
  pub after : core_over c passing_begun places
      ≡ record c { phase = Holding t (record page { floor = floor }) stored published }
  pub behind : AreBehind floor places
  pub within : floor ≤ page.words
  pub few : floor ≤ PLACES
  pub furthest : (n : ℕ) → n ≤ page.words → n ≤ PLACES → AreBehind n places → n ≤ floor
  pub rises : PageKeeps page → AreBehind page.floor places → page.floor ≤ floor
