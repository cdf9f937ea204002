-- All proofs of the rule of one table have one log: where no word of the log is used again, or
-- where a receiver shows that has not left.
use Rattle.std.proofs.Common.{◌≡◌, ◌⊎◌, ℕ, ◌<◌, ◌≤◌, false, Option, length, inl, inr, arith}
use mathlib.Core.Option.{some}
use lib.ListN.{get_elem?}
use Rattle.std.proofs.lemmas.Bool.{cases_lt}
use Rattle.std.proofs.lemmas.Grind.{common_steps}
use Rattle.atomic_table.specs.Table.{State}
use Rattle.bus_tenure.specs.declared.pages.Page.{Page}
use Rattle.bus_automaton.specs.Lawful.{AutomatonLaws, floor_in}
use Rattle.bus_automaton.specs.Processes.{Process, Automaton, base_in, log_in}
use Rattle.bus_pageslot.specs.ReceiverViews.{ReceiverView}
use Rattle.bus_pageslot.specs.Rings.{ShowsReceiver}
use Rattle.bus_pageslot.specs.Rule.{TableInvariant}
use Rattle.bus_pageslot.specs.declared.rule.View.{View}
use Rattle.bus_pageslot.proofs.Ruled.OnePage.{one_log}
use Rattle.bus_pageslot.proofs.Said.Promising.{seats_promised}
use Rattle.bus_pageslot.proofs.Said.Rings.{all_served, below_here}

module _ {C : Type 0} (P : Process C) (A : Automaton C) (L : AutomatonLaws P A)
    (s : State (Option Page) (View C)) (r q : TableInvariant P A s) where
  -- a receiver that stays knows the log as far as the floor
  knows_floor : 0 < A.table_layout.passers → (j : ℕ) (v : View C) (e : ReceiverView)
      → get_elem? s.views j ≡ some v → ShowsReceiver e v → e.gone ≡ false
      → floor_in A.table_layout s.words ≤ length e.known
  knows_floor any j v e at is stays =
      let served = all_served P A L s r j v e at is any in
      let floor = (served.stays stays).floor in
      let within = served.within in
      let below = below_here P A L s r j v e at is any in omega arith

  abbrev Shown : Type 0
  Shown =
      (j : ℕ) × (v : View C) × (e : ReceiverView) × (get_elem? s.views j ≡ some v)
      × ShowsReceiver e v × (e.gone ≡ false)

  known_low : (A.table_layout.passers ≡ 0) ⊎ Shown
      → (A.table_layout.passers ≡ 0) ⊎ ((log_in A r.state ≡ log_in A q.state)
      ⊎ ((j : ℕ) × (v : View C) × (e : ReceiverView) × (get_elem? s.views j ≡ some v)
      × ShowsReceiver e v × (floor_in A.table_layout s.words ≤ length e.known)))
  known_low (inl flat) = inl flat
  known_low (inr (j, v, e, at, is, stays)) = grind (arith, common_steps, cases_lt, knows_floor)

  pub one_list : (A.table_layout.passers ≡ 0) ⊎ Shown → log_in A r.state ≡ log_in A q.state
  one_list seen = one_log P A.table_layout (base_in A) (log_in A r.state) s (log_in A q.state)
      (seats_promised P A L s r) (seats_promised P A L s q) (known_low seen)
