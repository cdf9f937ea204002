-- What a receiver that was forked off another keeps beside its seat, and what the other one does.
use Rattle.std.proofs.Common.{◌≡◌, ℕ, ◌<◌, Bool, Option, Some, None, arith, sym, ◌∙◌, ap, subst}
use Rattle.std.proofs.lemmas.Bool.{cases_lt}
use Rattle.std.proofs.lemmas.Grind.{common_steps}
use Rattle.bus_automaton.specs.Processes.{TableLayout}
use Rattle.bus_pageslot.specs.ReceiverViews.{ReceiverView}
use Rattle.bus_pageslot.specs.Rounds.{GoesRound}
use Rattle.bus_pageslot.specs.Rule.{Sat, receiver_view_in, table_layout_in}
use Rattle.bus_pageslot.specs.Seats.{HasCells, IsPassedAt, IsReceiverView}
use Rattle.bus_pageslot.specs.Steps.{HasTriedBy, IsForkOf}
use Rattle.bus_pageslot.specs.declared.listeners.Listener.{Listener}
use Rattle.bus_pageslot.specs.declared.listeners.LogCells.{LogCells}

-- ---- where it lies
module _ (x : TableLayout) (flat : x.passers ≡ 0) (me number : ℕ) where
  none_of_any : (o : Option ℕ) → IsPassedAt x me o → IsPassedAt x number o
  none_of_any (Some at) own = absurd (let low = own.0 in omega arith)
  none_of_any None own = own

-- ---- a number of a ring is that of one of its passed places
below_all : (x : TableLayout) (me : ℕ) (o : Option ℕ) → IsPassedAt x me o → 0 < x.passers
    → me < x.passers
below_all x me (Some at) own some = own.0
below_all x me None own some = absurd (omega (arith, own))

pub number_within : {C : Type 0} {m : Sat C} {words : ℕ} {l : Listener}
    → IsReceiverView m words l → 0 < (table_layout_in m.0).passers
    → l.cells.number < (table_layout_in m.0).passers
number_within {C} {l = l} h = grind (arith, common_steps, below_all)

-- ---- a fork
module _ {C : Type 0} {m : Sat C} {words : ℕ} {l : Listener} (h : IsReceiverView m words l)
    (number : ℕ) (cells : LogCells)
    (ring : (x : TableLayout) → HasCells x l.cells.number l.cells → l.cells.number < number
    → number < x.passers → HasCells x number cells)
    (flat : (x : TableLayout) → HasCells x l.cells.number l.cells → x.passers ≡ 0
    → cells ≡ l.cells)
    (up : 0 < (table_layout_in m.0).passers → (receiver_view_in m.0).me < number)
    (low : 0 < (table_layout_in m.0).passers → number < (table_layout_in m.0).passers) where
  abbrev x : TableLayout
  x = h.table_layout

  abbrev e : ReceiverView
  e = h.receiver_view

  own : HasCells x l.cells.number l.cells
  own = subst (λ k. HasCells x k l.cells) (sym h.cells.number_is) h.cells

  some_there : 0 < x.passers → 0 < (table_layout_in m.0).passers
  some_there any = subst (λ (y : Sat C). 0 < (table_layout_in y.0).passers) (sym h.me) any

  none_there : x.passers ≡ 0 → (table_layout_in m.0).passers ≡ 0
  none_there none = ap (λ (y : Sat C). (table_layout_in y.0).passers) h.me ∙ none

  pub up_here : 0 < x.passers → e.me < number
  up_here any =
      subst (λ (y : Sat C). (receiver_view_in y.0).me < number) h.me (up (some_there any))

  low_here : 0 < x.passers → number < x.passers
  low_here any =
      subst (λ (y : Sat C). number < (table_layout_in y.0).passers) h.me (low (some_there any))

  ring_cells : 0 < x.passers → HasCells x number cells
  ring_cells any =
      ring x own (let is = h.cells.number_is in let a = up_here any in omega arith) (low_here any)

  flat_cells : x.passers ≡ 0 → HasCells x e.me cells
  flat_cells none = subst (HasCells x e.me) (sym (flat x own none)) h.cells

  pub passed_here : IsPassedAt x number cells.passed_at
  passed_here = grind (arith, common_steps, cases_lt, ring_cells, none_of_any, flat_cells)

  pub passed_there : IsPassedAt (table_layout_in m.0) number cells.passed_at
  passed_there = subst (λ (y : Sat C). IsPassedAt (table_layout_in y.0) number cells.passed_at)
      (sym h.me) passed_here

  -- ---- the new receiver
  module _ {n : Sat C} {words' : ℕ} {l' : Listener} (made : IsForkOf m number n)
      (wide : words' ≡ words) (round : GoesRound l') (reader : l'.reader ≡ l.reader)
      (passed : l'.passed ≡ l.passed) (cells_are : l'.cells ≡ cells) where
    -- with another number
    forked_ring : 0 < x.passers → IsReceiverView n words' l'
    forked_ring any = grind (arith, common_steps, some_there, ring_cells)

    -- and a copy
    forked_flat : x.passers ≡ 0 → IsReceiverView n words' l'
    forked_flat none = grind (arith, common_steps, none_there, flat_cells)

    pub forked_tap : IsReceiverView n words' l'
    forked_tap = grind (arith, common_steps, cases_lt, forked_ring, forked_flat)

  -- ---- the one that forks
  module _ {m' : Sat C} {words' : ℕ} {got : Bool} (tries : HasTriedBy m number got m')
      (wide : words' ≡ words) where
    tried_ring : 0 < x.passers → IsReceiverView m' words' l
    tried_ring any = grind (arith, common_steps, some_there)

    tried_flat : x.passers ≡ 0 → IsReceiverView m' words' l
    tried_flat none = grind (arith, common_steps, none_there)

    pub tried_tap : IsReceiverView m' words' l
    tried_tap = grind (arith, common_steps, cases_lt, tried_ring, tried_flat)
