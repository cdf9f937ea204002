-- What stands behind a table: a machine, and what led to it.
use Rattle.std.proofs.Common.{◌≡◌, ◌⊎◌, ℕ, ◌<◌, Bool, Option, Some, None, List, slice_index, inl}
use Rattle.std.proofs.Common.{inr, ap, ◌∙◌}
use mathlib.Core.Option.{some}
use lib.ListN.{get_elem?}
use Rattle.atomic_table.specs.Table.{State}
use Rattle.bus_adoptcommit.specs.declared.verdicts.Verdict.{Verdict}
use Rattle.bus_core.specs.Senders.{Sender}
use Rattle.bus_machine.specs.Playing.{layout_passed}
use Rattle.bus_machine.specs.Bounding.{AreBounded, PinsAreBounded}
use Rattle.bus_machine.specs.Promise.{IsPromised}
use Rattle.bus_machine.specs.Telling.{LossesAreSeen}
use Rattle.bus_register.specs.Protocol.{Protocol}
use Rattle.bus_register.specs.declared.kinds.Kind.{Kind}
use Rattle.bus_register.specs.declared.limits.TheConstants.{TENURES}
use Rattle.bus_register.specs.declared.registers.Op.{Op}
use Rattle.bus_tenure.specs.Core.{Election, Layout}
use Rattle.bus_tenure.specs.Elections.{Elector, election_with, layout_with}
use Rattle.bus_tenure.specs.declared.pages.Page.{Page}
use Rattle.bus_world.specs.declared.shapes.Shape.{Shape}
use Rattle.bus_automaton.specs.Buses.{process_with, automaton_with, layout_by, plan_passers}
use Rattle.bus_automaton.specs.Lawful.{AutomatonLaws, HasLog}
use Rattle.bus_automaton.specs.OneAutomaton.{bus_of, trail_of}
use Rattle.bus_automaton.specs.OneProcess.{process_of, table_layout_by}
use Rattle.bus_automaton.specs.Processes.{log_below}
use Rattle.bus_automaton.specs.SenderTrails.{SenderTrail, new_sender_trail}
use Rattle.bus_automaton.specs.declared.plans.Plan.{Plan}
use Rattle.bus_pageslot.specs.Notes.{Notes}
use Rattle.bus_pageslot.specs.Histories.{Shown, IsShown, HasHistory}
use Rattle.bus_pageslot.specs.Rule.{IsSeated, Seats, TableInvariant}
use Rattle.bus_pageslot.specs.declared.rule.View.{View}
use Rattle.bus_pageslot.specs.declared.rule.View.TheVariants as view

-- ---- a bus of any plan is the one automaton
module _ {S : Type 0} (kind_of : S → Option Kind) (op : S → ℕ → Option Op) (fed : S → ℕ → ℕ → S)
    (Q : Protocol S Bool Verdict) (plan : Plan) where
  abbrev pub elector : Election (Elector S)
  elector = election_with kind_of op fed Q

  abbrev pub sizes : Layout
  sizes = layout_by Q plan

  pub rule_is : (s : State (Option Page) (View (Sender (Elector S))))
      → TableInvariant (process_with kind_of op fed Q) (automaton_with kind_of op fed Q plan) s
      → TableInvariant (process_of elector) (bus_of elector sizes plan.reuse plan.bases) s
  unfolding process_with automaton_with
  rule_is s r = r

  pub laws_are : AutomatonLaws (process_with kind_of op fed Q)
      (automaton_with kind_of op fed Q plan)
      → AutomatonLaws (process_of elector) (bus_of elector sizes plan.reuse plan.bases)
  unfolding process_with automaton_with
  laws_are h = h

-- what is so of all sizes is so of those of a shape
sized_at : {S : Type 0} (Q : Protocol S Bool Verdict) (G : Layout → Type 0)
    → ((senders rounds rows capacity passers batch : ℕ)
    → G (layout_with Q senders rounds rows capacity passers batch))
    → (shape : Shape) (reuse : Option ℕ) (passers : ℕ) → G (layout_passed Q shape reuse passers)
sized_at Q G h shape None passers =
    h shape.senders shape.rounds shape.rows shape.log_words passers shape.batch
sized_at Q G h shape (Some rows) passers =
    h shape.senders shape.rounds TENURES shape.log_words passers shape.batch

pub sized : {S : Type 0} (Q : Protocol S Bool Verdict) (G : Layout → Type 0)
    → ((senders rounds rows capacity passers batch : ℕ)
    → G (layout_with Q senders rounds rows capacity passers batch))
    → (plan : Plan) → G (layout_by Q plan)
sized Q G h plan = sized_at Q G h plan.shape plan.reuse (plan_passers plan)

-- ---- of a table of which the rule holds
module _ {E : Type 0} (X : Election E) (x : Layout) (reuse : Option ℕ) (bases : List ℕ)
    (s : State (Option Page) (View (Sender E)))
    (r : TableInvariant (process_of X) (bus_of X x reuse bases) s) where
  pub seated : (j : ℕ) (v : Sender E) (sender_trail : SenderTrail) → Shown s j v sender_trail
      → (notes : Notes)
      × IsSeated (process_of X) (bus_of X x reuse bases) r.state r.seat j v sender_trail
      notes.stored
  seated j v sender_trail (inl h) = (h.0, r.views j (view.Sender v sender_trail h.0) h.1)
  seated j v sender_trail (inr h) = (
    h.0,
    (r.views j (view.Telling v sender_trail h.0 h.1 h.2) h.3).0,
  )

  -- who shows in no seat has done nothing
  shows : (p j : ℕ) (v : View (Sender E)) → get_elem? s.views j ≡ some v → Seats (process_of X) p v
      → p < x.senders
      → IsShown s p ⊎ (trail_of bases r.state.trails p ≡ new_sender_trail (slice_index bases p))
  shows p j (view.Maker y made) at me below =
      inr ((r.views j (view.Maker y made) at).1 p me below).sender_trail_is
  shows p j (view.Sender c sender_trail notes) at me below =
      inl (record {
        seat = j;
        sender = c;
        sender_trail = sender_trail;
        me = me;
        shown = inl (notes, at);
      })
  shows p j (view.Tap y e) at me below = absurd me
  shows p j (view.Meeting y e y' e') at me below = absurd me
  shows p j (view.Telling c sender_trail notes y e) at me below =
      inl (record {
        seat = j;
        sender = c;
        sender_trail = sender_trail;
        me = me;
        shown = inr (notes, y, e, at);
      })
  shows p j view.Spent at me below = absurd me

  pub has_history : (most : ℕ → ℕ → ℕ)
      → IsPromised X r.state.machine r.state.trails
      × LossesAreSeen r.state.machine r.state.trails.actions
      → AreBounded X (most x.senders x.rounds) r.state.machine r.state.trails
      × PinsAreBounded r.state.trails
      → HasLog (bus_of X x reuse bases) r.state
      → HasHistory X x reuse bases most s
  has_history most h bounded log = record {
    history = r.state;
    reached = r.reached;
    words = r.words;
    homes = r.slot;
    senders = λ j v sender_trail is. (seated j v sender_trail is).1.core;
    trails = λ j v sender_trail is. (seated j v sender_trail is).1.sender_trail_is;
    all = λ p below. let a = r.all p below in shows p a.0 a.1 a.2 a.3 below;
    shows = cc;
    stands = λ flat. ap (log_below (table_layout_by x reuse)) r.words ∙ log.stands flat;
    promised = h.0;
    losses = h.1;
    bounded = bounded;
  }
