-- Executions and reads in the one order of all replicas: what is linearizable of them (Herlihy and
-- Wing 1990).
use Rattle.std.specs.Prelude.{◌≡◌, ℕ, List, ◌∷◌, ◌++◌, Option}
use mathlib.Core.Option.{some}
use lib.ListN.{get_elem?}
use Rattle.atomic_table.specs.Table.{State}
use Rattle.bus_batch.specs.declared.messages.Item.{Item}
use Rattle.bus_batch.specs.Frames.{Order, items_in}
use Rattle.bus_tenure.specs.declared.pages.Page.{Page}
use Rattle.bus_world.specs.Headline.{IsPrefix}
use Rattle.bus_automaton.specs.Processes.{Process, Automaton, base_in}
use Rattle.bus_pageslot.specs.Lasting.{RuledTable, published}
use Rattle.bus_pageslot.specs.Promised.{IsPromised}
use Rattle.bus_pageslot.specs.Seats.{SenderSeat, Shows}
use Rattle.bus_pageslot.specs.declared.rule.View.{View}
use Rattle.bus_replica.specs.Replicas.{Operations, Folds}

-- a page of promises of a table on which the rule of the bus holds, with all that was published
abbrev pub PageOf : {C : Type 0} {P : Process C} {A : Automaton C} → RuledTable P A → Type 0
PageOf {P = P} {A = A} t = IsPromised P A.table_layout (base_in A) (published t) t.table

-- a seat of the table is this sender's, and shows it as it was after its last step
pub record SitsAt {C : Type 0} (P : Process C) (s : State (Option Page) (View C))
    (sender : SenderSeat C) : Type 0 where
  pub place : ℕ
  pub at : get_elem? s.views place ≡ some sender.seat.me.0
  pub shows : Shows P sender.core sender.seat

-- Of a call that began when the order was the one, and had returned when it was the other: the
-- operation of these bytes, by this number of this worker, stands at one place of the one order of
-- all. All that stood in the order when the call began stands before it. The answer is what it
-- answers on the state that all before it lead to, and this is the state that it leaves.
pub record IsLinearized {S A : Type 0} (IsFirst : S → Type 0) (Applies : Operations S A)
    (earlier later : Order) (worker number : ℕ) (bytes : List ℕ) (answer : A) (state : S) :
    Type 0 where
  pub before : List Item
  pub item : Item
  pub after : List Item
  pub stands : items_in later.entries ≡ before ++ item ∷ after
  pub worker_is : item.sender.0 ≡ worker
  pub number_is : item.number ≡ number
  pub bytes_are : item.message ≡ bytes
  pub behind : IsPrefix (items_in earlier.entries) before
  pub first : S
  pub begins : IsFirst first
  pub at : S
  pub folds : Folds Applies first before at
  pub applied : Applies at worker bytes answer state

-- Of a read that began when the order was the one, and had returned when it was the other: the
-- state is the fold over a beginning of the one order, and all that stood in the order when the
-- read began is in that.
pub record IsRead {S A : Type 0} (IsFirst : S → Type 0) (Applies : Operations S A)
    (earlier later : Order) (state : S) : Type 0 where
  pub first : S
  pub begins : IsFirst first
  pub items : List Item
  pub folds : Folds Applies first items state
  pub of_order : IsPrefix items (items_in later.entries)
  pub behind : IsPrefix (items_in earlier.entries) items
