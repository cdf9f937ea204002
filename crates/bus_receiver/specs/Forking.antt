-- What a receiver that forks has found, and what it has made.
use Rattle.std.specs.Prelude.{◌≡◌, ◌≢◌, ℕ, ◌+◌, ◌<◌, All, List, [], ◌∷◌, length}
use Rattle.bus_register.specs.declared.limits.TheConstants.{PASSED_ALL}
use Rattle.bus_automaton.specs.Processes.{TableLayout, passed_word}
use Rattle.bus_pageslot.specs.declared.rule.View.TheVariants.{Tap}
use Rattle.bus_pageslot.specs.ReceiverViews.{ReceiverView, receiver_tried}
use Rattle.bus_pageslot.specs.Rule.{Sat, receiver_view_in, table_layout_in, with_receiver_view}
use Rattle.bus_pageslot.specs.Steps.{HasTried, IsForkOf}

-- its own number
abbrev pub number_in : {C : Type 0} → Sat C → ℕ
number_in m = (receiver_view_in m.0).me

-- the seat with one try more, in this word, which found this
abbrev pub with_try : {C : Type 0} → Sat C → (word found : ℕ) → Sat C
with_try m word found =
    (with_receiver_view m.0 (receiver_tried (receiver_view_in m.0) word found), m.1)

-- with tries at this number and those behind it, one after another, which found these
abbrev pub with_tries : {C : Type 0} → Sat C → (number : ℕ) → List ℕ → Sat C
with_tries m number [] = m
with_tries m number (found ∷ more) =
    with_tries (with_try m (passed_word (table_layout_in m.0) number) found) (number + 1) more

-- A receiver of a ring tried the numbers above its own, one step each, the lowest first. These were
-- found in their passed places: so each was taken. Its seat shows that, and nothing else of it has
-- changed.
pub record FindsTaken {C : Type 0} (m : Sat C) (found : List ℕ) (m' : Sat C) : Type 0 where
  pub others : All (λ (at : ℕ). at ≢ PASSED_ALL) found
  pub tries : m' ≡ with_tries m (number_in m + 1) found

-- Then the next number was free. The new receiver has it, and is else what the one was before that
-- try.
pub record ForksOnRing {C : Type 0} (m n m' : Sat C) : Type 0 where
  pub found : List ℕ
  pub old : Sat C
  pub before : FindsTaken m found old
  pub number : ℕ
  pub next : number ≡ number_in m + 1 + length found
  pub within : number < (table_layout_in m.0).passers
  pub tries : HasTried old (passed_word (table_layout_in m.0) number) PASSED_ALL m'
  pub made : IsForkOf old number n

-- so of a ring; else it is a copy, and no step is shown
pub record HasForked {C : Type 0} (m n m' : Sat C) : Type 0 where
  pub ring : 0 < (table_layout_in m.0).passers → ForksOnRing m n m'
  pub flat : (table_layout_in m.0).passers ≡ 0 → (m' ≡ m) × (n ≡ m)

-- each number of the ring above its own was taken
pub record FindsNoSeat {C : Type 0} (m m' : Sat C) : Type 0 where
  pub found : List ℕ
  pub tries : FindsTaken m found m'
  pub all : number_in m + 1 + length found ≡ (table_layout_in m.0).passers

-- ---- what these refuse, of a receiver of a ring
pub record ForksRefuse (C : Type 0) (x : TableLayout) (e : ReceiverView) : Type 0 where
  -- one that passed over the next number, and tried the one behind it
  pub skips : (n : Sat C)
      → ¬ HasForked {C = C} (Tap x e, []) n
      (Tap x (receiver_tried e (passed_word x (e.me + 2)) PASSED_ALL), [])
  -- none, though it has tried no number, and the ring has one above its own
  pub untried : e.me + 1 < x.passers → ¬ FindsNoSeat {C = C} (Tap x e, []) (Tap x e, [])
  -- none, though the next number was free
  pub free : ¬ FindsNoSeat {C = C} (Tap x e, [])
      (Tap x (receiver_tried e (passed_word x (e.me + 1)) PASSED_ALL), [])
  -- none, though it stopped at the first of two numbers
  pub short : (found : ℕ) → e.me + 2 < x.passers → ¬ FindsNoSeat {C = C} (Tap x e, [])
      (Tap x (receiver_tried e (passed_word x (e.me + 1)) found), [])
  -- one that found the next number free, and tried the one behind it all the same
  pub goes_on : (n : Sat C) (found : ℕ)
      → ¬ HasForked {C = C} (Tap x e, []) n (
        Tap x (receiver_tried (receiver_tried e (passed_word x (e.me + 1)) PASSED_ALL)
            (passed_word x (e.me + 2)) found),
        [],
      )
