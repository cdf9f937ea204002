-- What a look found is right for as long as it says: a no from the load of the least passed place
-- on, and a yes while the length is the same.
use Rattle.std.proofs.Common.{◌≡◌, ℕ, zero, suc, ◌+◌, ◌*◌, ◌<◌, ◌≤◌, arith, ap, inl, inr}
use Rattle.std.proofs.lemmas.Bool.{cases_eq, cases_lt}
use Rattle.std.proofs.lemmas.Grind.{common_steps}
use Rattle.bus_core.specs.declared.limits.TheConstants.{PASSED_APART}
use Rattle.bus_tenure.specs.Core.{length_at}
use Rattle.bus_world.proofs.FloorLaws.{lesser_is}
use Rattle.bus_world.specs.Log.{least_passed, floor_shown}
use Rattle.bus_automaton.specs.Processes.{TableLayout, passed_word}
use Rattle.bus_pageslot.specs.Looks.{FitsBy}
use Rattle.bus_pageslot.proofs.Said.Fitting.{shown_above}
use Rattle.bus_pageslot.proofs.Sends.Looking.{shown_low}

-- the least is not past any of them
least_below : (words : ℕ → ℕ) (at n len r : ℕ) → r < n
    → least_passed words at n len ≤ words (at + PASSED_APART * r)
least_below words at zero len r below = absurd (omega arith)
least_below words at (suc k) len r below =
    let is = lesser_is (words (at + PASSED_APART * k)) (least_passed words at k len) in
    elim (cases_eq r k) [
      | inl last ↦ grind (arith, common_steps)
      | inr before ↦
          let more = least_below words at k len r (omega arith) in
          elim is [
            | inl a ↦ (let e = a.0 in let low = a.1 in omega arith)
            | inr a ↦ (let e = a.0 in let low = a.1 in omega arith)
          ]
    ]

-- nor is the floor
shown_below : (words : ℕ → ℕ) (at n len r : ℕ) → r < n
    → floor_shown words at n len ≤ words (at + PASSED_APART * r)
shown_below words at zero len r below = absurd (omega arith)
shown_below words at (suc k) len r below = least_below words at (suc k) len r below

-- where no passed place is found behind what it was, and the length is the same, what fitted fits
pub yes_stays : (x : TableLayout) (found now : ℕ → ℕ) (many : ℕ) → now length_at ≡ found length_at
    → ((r : ℕ) → r < x.passers → found (passed_word x r) ≤ now (passed_word x r))
    → FitsBy x found many → FitsBy x now many
yes_stays x found now many same risen fits =
    let low : ℕ = floor_shown found x.passed x.passers (found length_at) in
    let long = shown_low found x.passed x.passers (found length_at) in
    let above : low ≤ floor_shown now x.passed x.passers (now length_at) =
    shown_above now x.passed x.passers (now length_at) low (omega arith)
    (λ none. ap (λ n. floor_shown found x.passed n (found length_at)) none)
    (λ r below.
    let before = shown_below found x.passed x.passers (found length_at) r below in
    let after = risen r below in omega arith) in
    omega arith

module _ (x : TableLayout) (found now : ℕ → ℕ) (many : ℕ)
    (longer : found length_at ≤ now length_at) where
  -- of a log that is no ring
  pub no_stays : x.passers ≡ 0 → ¬ FitsBy x found many → ¬ FitsBy x now many
  no_stays none full fits = grind (arith, common_steps)

  -- and of a ring, where the least of the passed places is the same
  pub no_was_right : (me : ℕ) → many ≤ x.capacity → me < x.passers
      → ((q : ℕ) → q < x.passers → found (passed_word x me) ≤ found (passed_word x q))
      → found (passed_word x me) ≡ now (passed_word x me) → ¬ FitsBy x found many
      → ¬ FitsBy x now many
  no_was_right me short below least stood full fits =
      let more = longer in
      let low = shown_below now x.passed x.passers (now length_at) me below in
      let place : ℕ = found (passed_word x me) in
      let long : ℕ = found length_at in
      full (elim (cases_lt long place) [
        | inl less ↦ grind (arith, common_steps, shown_above)
        | inr over ↦
            let above = shown_above found x.passed x.passers long place (omega arith)
            (λ none. absurd (omega arith)) (λ q there. least q there) in omega arith
      ])
