-- A sender that has accepted a message or a mark still shows its seat, which no step has changed;
-- and its actions have that one more.
use Rattle.std.proofs.Common.{◌≡◌, ℕ, ◌+◌, ◌<◌, ◌≤◌, Option, List, [], ◌∷◌, ◌++◌, length, arith}
use Rattle.std.proofs.Common.{sym, ◌∙◌, ap, subst, append_assoc}
use Rattle.std.specs.Prelude.{All, Result, Ok, Err, IfOk, OnOk, OnErr}
use Rattle.std.proofs.lemmas.List.{length-append}
use Rattle.std.proofs.lemmas.Grind.{common_steps}
use Rattle.atomic_table.specs.Seated.{TableId}
use Rattle.atomic_table.specs.declared.shared.Seat.{Seat}
use Rattle.bus_batch.specs.Batches.{next_of, CanPut, CanClose}
use Rattle.bus_batch.specs.declared.batches.PutFault.{PutFault}
use Rattle.bus_batch.specs.declared.batches.CloseFault.{CloseFault}
use Rattle.bus_batch.specs.declared.messages.Mark.{Mark}
use Rattle.bus_tenure.specs.declared.pages.Page.{Page}
use Rattle.bus_world.specs.Headline.{Action, HasPut, HasMarked, puts}
use Rattle.bus_pageslot.specs.declared.rule.View.{View}
use Rattle.bus_automaton.specs.Processes.{Process}
use Rattle.bus_automaton.specs.Lawful.{ProcessLaws, Keeps}
use Rattle.bus_pageslot.specs.Rule.{Sat, sender_trail_in}
use Rattle.bus_pageslot.specs.Steps.{Accepts, Numbers, since_in, all_in}
use Rattle.bus_pageslot.specs.Steps.Accepts.{Message, Marks}
use Rattle.bus_pageslot.specs.Seats.{Shows}
use Rattle.bus_pageslot.proofs.SeatSteps.Accepting.{since_is}

-- the actions of a sender d with this view
abbrev pub actions_in : {C : Type 0} → Process C → View C → C → List Action
actions_in P v d = (all_in P v d).actions

module _ {C : Type 0} (P : Process C) (L : ProcessLaws P) (d : C) (s : Seat (Option Page) (View C))
    (h : Shows P d s) where
  -- all that it did, by what it has accepted
  pub actions_are : (d' : C) (actions : List Action) → Accepts P h.shown d' actions
      → actions_in P s.me.0 d' ≡ (sender_trail_in s.me.0).actions ++ actions
  actions_are d' actions more = ap (λ l. (sender_trail_in s.me.0).actions ++ l)
      (ap (λ (y : Sat C). since_in P y.0 d') h.me ∙ since_is P L h.shown d' actions more)

  more_actions : (d' : C) (action : Action) → Accepts P h.shown d' (h.actions ++ action ∷ [])
      → actions_in P s.me.0 d' ≡ actions_in P s.me.0 d ++ action ∷ []
  more_actions d' action more = grind (arith, common_steps, actions_are, append_assoc)

  -- it shows its seat still, with a batch of as few messages
  still : (d' : C) (actions : List Action) → Accepts P h.shown d' actions → Keeps P d d'
      → (P.queue d').first ≡ (P.queue d).first → (P.queue d').limit ≡ (P.queue d).limit
      → length (P.queue d').messages ≤ (P.queue d).limit → Shows P d' s
  still d' actions more keeps first limit few = grind (arith, common_steps)

  module _ (bytes : List ℕ) (small : All (λ byte. byte < 256) bytes)
      (can : CanPut (P.queue d) (length bytes)) where
    one_message : Accepts P h.shown (P.with_message d bytes)
        (h.actions ++ HasPut (next_of (P.queue d)) bytes ∷ [])
    one_message = Message d h.actions bytes h.accepts can small

    shows_message : Shows P (P.with_message d bytes) s
    shows_message = grind (arith, common_steps, still, one_message, length-append, length)

  module _ (mark : Mark) (can : CanClose (P.queue d)) where
    one_mark : Accepts P h.shown (P.with_mark d mark) (h.actions ++ HasMarked mark ∷ [])
    one_mark = Marks d h.actions mark h.accepts can

    shows_marked : Shows P (P.with_mark d mark) s
    shows_marked = grind (arith, common_steps, still, one_mark, length)

  -- it shows a seat that shows the same
  pub shows_same : (s' : Seat (Option Page) (View C)) → s'.me ≡ s.me → s'.table_id ≡ s.table_id
      → Shows P d s'
  shows_same s' same table = record {
    shown = h.shown;
    actions = h.actions;
    accepts = h.accepts;
    counted = h.counted;
    laid = h.laid;
    numbered = subst (λ (m : Sat C). Numbers P h.shown (sender_trail_in m.0)) (sym same) h.numbered;
    me = cc;
    words = ap (λ (z : TableId). z.words) table ∙ h.words;
    slots = ap (λ (z : TableId). z.slots) table ∙ h.slots;
  }

  -- the number that a message gets is in its range
  pub number_fits : next_of (P.queue d) < 281474976710656
  number_fits = let a = h.counted.first in let b = h.counted.few in omega arith

  pub shows_put : (d' : C) (bytes : List ℕ) (r : Result ℕ PutFault) → All (λ byte. byte < 256) bytes
      → OnOk r (d' ≡ P.with_message d bytes) → OnOk r (CanPut (P.queue d) (length bytes))
      → OnErr r (d' ≡ d) → Shows P d' s
  shows_put d' bytes (Ok n) small taken could same =
      subst (λ z. Shows P z s) (sym taken) (shows_message bytes small could)
  shows_put d' bytes (Err e) small taken could same = subst (λ z. Shows P z s) (sym same) h

  pub put_done : (d' : C) (bytes : List ℕ) (r : Result ℕ PutFault) → All (λ byte. byte < 256) bytes
      → IfOk r (λ number. number ≡ next_of (P.queue d)) → OnOk r (d' ≡ P.with_message d bytes)
      → OnOk r (CanPut (P.queue d) (length bytes))
      → IfOk r
      (λ number. actions_in P s.me.0 d' ≡ actions_in P s.me.0 d ++ HasPut number bytes ∷ [])
  put_done d' bytes (Ok n) small number taken could =
      grind (arith, common_steps, more_actions, one_message)
  put_done d' bytes (Err e) small number taken could = tt

  -- the number that a message gets is how many it has put before, from its first number on
  pub put_counts : (bytes : List ℕ) (r : Result ℕ PutFault)
      → IfOk r (λ number. number ≡ next_of (P.queue d)) → OnOk r (CanPut (P.queue d) (length bytes))
      → IfOk r
      (λ number. number ≡ (sender_trail_in s.me.0).first + length (puts (actions_in P s.me.0 d)))
  put_counts bytes (Ok n) number could =
      number ∙ h.numbered d h.actions h.accepts (length bytes) could
      ∙ ap (λ l. (sender_trail_in s.me.0).first + length (puts l))
      (sym (actions_are d h.actions h.accepts))
  put_counts bytes (Err e) number could = tt

  -- what close, or leave, makes of it
  pub shows_mark : (mark : Mark) (d' : C) (r : Result (Unit {0}) CloseFault)
      → OnOk r (d' ≡ P.with_mark d mark)
      → OnOk r (CanClose (P.queue d)) → OnErr r (d' ≡ d) → Shows P d' s
  shows_mark mark d' (Ok n) taken could same =
      subst (λ z. Shows P z s) (sym taken) (shows_marked mark could)
  shows_mark mark d' (Err e) taken could same = subst (λ z. Shows P z s) (sym same) h

  pub mark_done : (mark : Mark) (d' : C) (r : Result (Unit {0}) CloseFault)
      → OnOk r (d' ≡ P.with_mark d mark)
      → OnOk r (CanClose (P.queue d))
      → OnOk r (actions_in P s.me.0 d' ≡ actions_in P s.me.0 d ++ HasMarked mark ∷ [])
  mark_done mark d' (Ok n) taken could = grind (arith, more_actions, one_mark)
  mark_done mark d' (Err e) taken could = tt
