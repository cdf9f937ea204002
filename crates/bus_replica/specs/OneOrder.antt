-- Replicas and the one order of their bus.
use Rattle.std.specs.Prelude.{◌≡◌, ℕ, List, Option}
use Rattle.atomic_table.specs.Table.{State}
use Rattle.bus_batch.specs.declared.messages.Item.{Item}
use Rattle.bus_batch.specs.Frames.{Order, items_in}
use Rattle.bus_tenure.specs.declared.pages.Page.{Page}
use Rattle.bus_world.specs.Headline.{IsPrefix}
use Rattle.bus_automaton.specs.Processes.{Process, Automaton, log_in}
use Rattle.bus_pageslot.specs.Rule.{TableInvariant}
use Rattle.bus_pageslot.specs.declared.rule.View.{View}
use Rattle.bus_replica.specs.Replicas.{Operations, Folds}

-- the state is the fold of the operations over a beginning of this order
pub record FollowsOrder {S A : Type 0} (IsFirst : S → Type 0) (Applies : Operations S A)
    (order : Order) (state : S) : Type 0 where
  pub first : S
  pub begins : IsFirst first
  pub items : List Item
  pub folds : Folds Applies first items state
  pub of_order : IsPrefix items (items_in order.entries)

-- an operation has one outcome, and there is one first state
pub record AreFunctions {S A : Type 0} (IsFirst : S → Type 0) (Applies : Operations S A) :
    Type 0 where
  pub one_first : (a b : S) → IsFirst a → IsFirst b → a ≡ b
  pub one_next : (old : S) (from : ℕ) (op : List ℕ) (answer answer' : A) (new new' : S)
      → Applies old from op answer new → Applies old from op answer' new'
      → (answer ≡ answer') × (new ≡ new')

-- A later moment of one bus: all that was published at the one begins what was published at the
-- other. Each step of any thread leaves such a table.
abbrev pub IsLater : {C : Type 0} (P : Process C) (A : Automaton C)
    (s : State (Option Page) (View C))
    → TableInvariant P A s → (t : State (Option Page) (View C)) → TableInvariant P A t → Type 0
IsLater P A s r t q = IsPrefix (log_in A r.state) (log_in A q.state)
