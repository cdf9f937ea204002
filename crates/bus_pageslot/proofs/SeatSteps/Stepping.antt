-- A step that is due of a sender of a table is a turn of the machine behind it.
use Rattle.std.proofs.Common.{◌≡◌, ℕ, ◌<◌, Option, Some, List, length, slice_get, sym, ◌∙◌, ap}
use Rattle.std.proofs.Common.{subst, arith}
use mathlib.Core.Option.{some}
use lib.ListN.{get_elem?}
use Rattle.atomic_table.specs.Table.{State}
use Rattle.bus_core.specs.Senders.{Sender}
use Rattle.bus_core.specs.Table.{Line, line_now}
use Rattle.bus_machine.specs.Machine.{Machine, Trails, Reached, Happens, machine_after, turn_answer}
use Rattle.bus_machine.specs.Promise.{HasRows}
use Rattle.bus_register.specs.Words.{register}
use Rattle.bus_register.specs.declared.registers.Op.{Op}
use Rattle.bus_tenure.specs.Core.{Election, Layout}
use Rattle.bus_tenure.specs.declared.pages.Page.{Page}
use Rattle.bus_world.specs.World.{IsLayout, Event, Turn}
use Rattle.bus_world.specs.Turning.{words_after}
use Rattle.bus_world.specs.declared.events.Answer.{Answer}
use Rattle.bus_world.specs.declared.events.Answer.TheVariants as answer
use Rattle.bus_automaton.specs.Lawful.{AutomatonLaws, AcceptsIn, IsSender}
use Rattle.bus_automaton.specs.OneAutomaton.{MachineHistory, IsMachineHistory, bus_of}
use Rattle.bus_automaton.specs.OneProcess.{process_of}
use Rattle.bus_automaton.specs.Processes.{TableLayout}
use Rattle.bus_automaton.proofs.Leading.{takes_turn}
use Rattle.bus_pageslot.specs.Rule.{Sat, sender_trail_in, notes_in, stored_in, IsSeated}
use Rattle.bus_pageslot.specs.Rule.{TableInvariant}
use Rattle.bus_pageslot.specs.Steps.{IsDue}
use Rattle.bus_pageslot.specs.declared.rule.View.{View}
use Rattle.bus_pageslot.specs.declared.rule.View.TheVariants as view
use Rattle.bus_pageslot.proofs.Ruled.Reaching.{accepted}

-- what is so of each event of a machine of these sizes
abbrev pub OfEvents : {E : Type 0} → Election E → (Machine E → Event → Answer → Machine E → Type 0)
    → Layout → Type 0
OfEvents {E} X G x =
    IsLayout x → (old : Machine E) (T : Trails) → old.layout ≡ x → HasRows old.reuse
    → Reached X old T
    → (event : Event) (given : Answer) (new : Machine E) → Happens X old event given new
    → G old event given new

module _ {E : Type 0} (X : Election E) (x : Layout) (reuse : Option ℕ) (bases : List ℕ)
    (L : AutomatonLaws (process_of X) (bus_of X x reuse bases))
    (s : State (Option Page) (View (Sender E)))
    (r : TableInvariant (process_of X) (bus_of X x reuse bases) s) (id : ℕ) (m : Sat (Sender E))
    (at : get_elem? s.views id ≡ some m.0) (d : Sender E) (word many : ℕ) (o : Op)
    (is_due : IsDue (process_of X) d word m many o) where
  abbrev pub c : Sender E
  c = is_due.shown

  abbrev pub p : ℕ
  p = c.core.me

  pub seated : IsSeated (process_of X) (bus_of X x reuse bases) r.state r.seat id c
      (sender_trail_in m.0) (stored_in m.0)
  seated = r.views id (view.Sender c (sender_trail_in m.0) (notes_in m.0))
      (at ∙ ap (λ (y : Sat (Sender E)). some y.0) is_due.me)

  -- with what it has accepted since its last step
  pub grown : AcceptsIn (bus_of X x reuse bases) r.state p d is_due.actions
  grown = accepted (process_of X) (bus_of X x reuse bases) L r.state r.reached c seated.core d
      is_due.actions is_due.accepts

  abbrev pub z : MachineHistory E
  z = grown.state

  abbrev pub b : Machine E
  b = z.machine

  abbrev pub l : Line E
  l = line_now X d

  abbrev pub new : Machine E
  new = machine_after b p l word

  pub is_history : IsMachineHistory X x reuse bases z
  is_history = grown.changes.reached

  pub here : slice_get b.senders p ≡ Some d
  here = grown.changes.here

  its : IsSender (process_of X) (bus_of X x reuse bases) p d
  its = L.senders z p d grown.changes.reached grown.changes.here

  pub me_is : d.core.me ≡ p
  me_is = its.me

  pub low : register o < length b.words
  low = subst (λ n. register o < n) (sym (L.wide z grown.changes.reached))
      (subst (λ (t : TableLayout). register o < t.words) its.table_layout is_due.below)

  pub words_are : s.words ≡ b.words
  words_are = r.words ∙ sym grown.words

  -- the turn happens, and this is so of it
  pub turn_is : (G : Machine E → Event → Answer → Machine E → Type 0) → OfEvents X G x
      → G b (Turn p word) (answer.Turn (turn_answer b l word)) new
  turn_is G law = grind (arith, is_history, takes_turn, here, low)

  -- its words
  pub words_now : new.words ≡ words_after b.words (Some o)
  words_now = ap (words_after b.words) is_due.due
