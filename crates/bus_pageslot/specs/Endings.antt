-- What a bus leaves behind.
use Rattle.std.specs.Prelude.{◌≡◌, ℕ, ◌<◌, ◌≤◌, List, [], ◌∷◌, Option, Some, drop, length, take}
use mathlib.Core.Option.{some}
use lib.ListN.{get_elem?}
use Rattle.atomic_table.specs.Table.{State}
use Rattle.bus_batch.specs.Frames.{IsLog}
use Rattle.bus_tenure.specs.declared.pages.Page.{Page}
use Rattle.bus_world.specs.Headline.{IsPrefix}
use Rattle.bus_world.specs.Log.{KeepsFloor}
use Rattle.bus_pageslot.specs.declared.rule.View.{View}
use Rattle.bus_pageslot.specs.Rule.{slot_of, receiver_view_in, known_in, TableInvariant}
use Rattle.bus_automaton.specs.Lawful.{floor_in, log_from_floor}
use Rattle.bus_automaton.specs.Processes.{Process, Automaton, base_in, log_below, log_in}
use Rattle.bus_pageslot.specs.Outcomes.{KnowsWhole}
use Rattle.bus_pageslot.specs.Promised.{IsPromised}

-- where no word of the log is used again, all of it stands, and the page says so
pub record IsFlat {C : Type 0} (A : Automaton C) (words log : List ℕ) (floor : ℕ)
    (home : Option Page) : Type 0 where
  pub first : floor ≡ 0
  pub log_is : log_below A.table_layout words ≡ log
  pub page : (page : Page) → home ≡ Some page → KeepsFloor page

-- A table of which the rule holds, whose log stands from this floor on, with these words from there
-- up to the length, and with this page at home. A receiver's seat shows what it showed when the bus
-- was ended. The words are the end of all that was published, of which what that receiver knew is a
-- beginning; the headline's page holds of it and of what the seats show; and a page at home knows
-- all of it.
pub record IsLeft {C : Type 0} (P : Process C) (A : Automaton C) (seen : View C) (log : List ℕ)
    (floor : ℕ) (home : Option Page) : Type 0 where
  pub table : State (Option Page) (View C)
  pub shown : TableInvariant P A table
  pub here : (seat : ℕ) × (get_elem? table.views seat ≡ some seen)
  pub floor_is : floor_in A.table_layout table.words ≡ floor
  pub log_is : log_from_floor A.table_layout table.words ≡ log
  pub published : drop floor (log_in A shown.state) ≡ log
  pub within : floor ≤ length (log_in A shown.state)
  -- a frame begins at the floor, or the last ends there: what stands are the last frames of all
  -- that was published
  pub edge : IsLog A.table_layout.senders (take floor (log_in A shown.state))
  -- of a ring the floor is not past what the receiver has passed that ended the bus
  pub passed : 0 < A.table_layout.passers → floor ≤ (receiver_view_in seen).passed
  pub flat : A.table_layout.passers ≡ 0 → IsFlat A table.words log floor home
  pub home_is : table.homes ≡ slot_of home ∷ []
  pub promised : IsPromised P A.table_layout (base_in A) (log_in A shown.state) table
  pub front : IsPrefix (known_in seen) (log_in A shown.state)
  pub knows : (page : Page) → home ≡ Some page
      → KnowsWhole (base_in A) page promised.order
      × (page.words ≡ length (log_in A shown.state)) × (page.floor ≤ page.words)
