-- How a receiver goes round the cells of its log.
use Rattle.std.proofs.Common.{◌≡◌, ◌≢◌, ℕ, ◌+◌, ◌-◌, ◌%◌, ◌<◌, ◌≤◌, ◌^◌, arith, ◌∙◌, ap}
use Rattle.std.proofs.Math.Nat.{mod-add-mod, add-mod-mod, add-mod_right, mod-eq_of_lt}
use Rattle.std.proofs.lemmas.Grind.{common_steps}
use Rattle.bus_deliverylog.specs.Receiving.{LogReading}
use Rattle.bus_pageslot.specs.declared.listeners.Listener.{Listener}
use Rattle.bus_pageslot.specs.Rounds.{GoesRound}

-- ---- a place and its cell
module _ (begin place L : ℕ) (first : begin % L ≡ 0) (behind : begin ≤ place) where
  pub cell_of : place < begin + L → place % L ≡ place - begin
  cell_of low = grind (arith, common_steps, mod-add-mod, mod-eq_of_lt)

-- the cell is a shift behind it
pub shifted : (begin place shift log M : ℕ) → (begin + shift) % M ≡ log → begin ≤ place
    → log + (place - begin) < M → (place + shift) % M ≡ log + (place - begin)
shifted begin place shift log M is behind small =
    grind (arith, common_steps, mod-add-mod, mod-eq_of_lt)

-- a whole log behind, the shift is a whole log less
pub shifted_back : (begin shift log L M : ℕ) → (begin + shift) % M ≡ log → L ≤ M
    → (begin + L + (shift + (M - L)) % M) % M ≡ log
shifted_back begin shift log L M is low =
    let sum : begin + L + (shift + (M - L)) ≡ begin + shift + M = omega arith in
    add-mod-mod (begin + L) (shift + (M - L)) M ∙ ap (λ n. n % M) sum
    ∙ add-mod_right (begin + shift) M ∙ is

pub next_begins : (begin L : ℕ) → begin % L ≡ 0 → (begin + L) % L ≡ 0
next_begins begin L first = add-mod_right begin L ∙ first

module _ (l : Listener) (h : GoesRound l) where
  -- where it is in its round
  pub place_is : (l.reader.place + l.shift) % 2 ^ 64
      ≡ l.cells.log + (l.reader.place - h.begin)
  place_is = grind (arith, common_steps, shifted)

  pub within_round : l.reader.place ≤ h.begin + l.cells.log_words
  within_round = let before = h.before in let within = h.within in omega arith

  pub not_known : l.reader.place ≢ l.limit → l.reader.place ≢ l.reader.known
  not_known other same =
      other (let before = h.before in let known = h.known in omega arith)

  pub cell_at : l.reader.place ≢ l.limit
      → (l.reader.place + l.shift) % 2 ^ 64
      ≡ l.cells.log + l.reader.place % l.cells.log_words
  cell_at other = grind (arith, common_steps, place_is, cell_of)

  -- this round is over
  pub round_over : l.reader.place ≡ l.limit → l.reader.place ≢ l.reader.known
      → l.reader.place ≡ h.begin + l.cells.log_words
  round_over over other = grind (arith, common_steps)

  -- it has taken a word
  pub round_on : (r : LogReading) → l.reader.place ≢ l.limit → r.place ≡ l.reader.place + 1
      → r.known ≡ l.reader.known → GoesRound (record l { reader = r })
  round_on r other place known = grind (arith, common_steps)
