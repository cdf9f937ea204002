-- A sender has the layout of the table that its seat is of.
use Rattle.std.proofs.Common.{◌≡◌, ℕ, Bool, Option, List, arith, refl, sym, ◌∙◌, ap, inl, inr}
use Rattle.std.proofs.lemmas.Bool.{cases_lt, true≢false}
use Rattle.std.specs.Prelude.{IsTrue}
use mathlib.Core.Option.{some}
use Rattle.atomic_table.specs.Table.{State}
use Rattle.atomic_table.specs.declared.shared.Seat.{Seat}
use Rattle.bus_batch.specs.Batches.{Pending}
use Rattle.bus_core.specs.Senders.{Sender}
use Rattle.bus_tenure.specs.declared.pages.Page.{Page}
use Rattle.bus_world.specs.Headline.{Action}
use Rattle.bus_automaton.specs.Lawful.{ProcessLaws, AutomatonLaws}
use Rattle.bus_automaton.specs.Processes.{Process, Automaton, TableLayout}
use Rattle.bus_automaton.specs.SenderTrails.{SenderTrail}
use Rattle.bus_pageslot.specs.Histories.{Shown}
use Rattle.bus_pageslot.specs.Looks.{HasLooked, batch_len}
use Rattle.bus_pageslot.specs.Room.{Fits}
use Rattle.bus_pageslot.specs.Rule.{Sat, TableInvariant, sender_trail_in, notes_in}
use Rattle.bus_pageslot.specs.Seats.{Shows}
use Rattle.bus_pageslot.specs.Steps.{Accepts, Nothing, Message, Marks}
use Rattle.bus_pageslot.specs.declared.rule.View.{View}
use Rattle.bus_pageslot.specs.declared.rule.View.TheVariants as view
use Rattle.bus_pageslot.proofs.SeatSteps.Accepting.{stays}
use Rattle.bus_pageslot.proofs.Sends.Looking.{never_fits}

-- and its batch the same limit, whatever it accepts
limit_stays : {C : Type 0} (P : Process C) → ProcessLaws P → (c d : C) (actions : List Action)
    → Accepts P c d actions → (P.queue d).limit ≡ (P.queue c).limit
limit_stays P K c _ _ Nothing = refl
limit_stays P K c _ _ (Message d actions bytes more can small) =
    ap (λ (q : Pending). q.limit) (K.message_waits d bytes) ∙ limit_stays P K c d actions more
limit_stays P K c _ _ (Marks d actions mark more can) =
    ap (λ (q : Pending). q.limit) (K.mark_waits d mark) ∙ limit_stays P K c d actions more

module _ {E : Type 0} (P : Process (Sender E)) (A : Automaton (Sender E)) (K : ProcessLaws P)
    (L : AutomatonLaws P A) (s : State (Option Page) (View (Sender E)))
    (r : TableInvariant P A s) (seat : ℕ) (v : Sender E) (trail : SenderTrail) where
  shown_layout : Shown s seat v trail → P.table_layout v ≡ A.table_layout
  shown_layout (inl (notes, at)) =
      (L.senders r.state (P.me v) v r.reached
      (r.views seat (view.Sender v trail notes) at).core).table_layout
  shown_layout (inr (notes, y, e, at)) =
      (L.senders r.state (P.me v) v r.reached
      (r.views seat (view.Telling v trail notes y e) at).0.core).table_layout

  shown_limit : Shown s seat v trail → (P.queue v).limit ≡ A.table_layout.batch
  shown_limit (inl (notes, at)) =
      let is = L.senders r.state (P.me v) v r.reached
      (r.views seat (view.Sender v trail notes) at).core in
      is.counted.limit ∙ ap (λ (x : TableLayout). x.batch) is.table_layout
  shown_limit (inr (notes, y, e, at)) =
      let is = L.senders r.state (P.me v) v r.reached
      (r.views seat (view.Telling v trail notes y e) at).0.core in
      is.counted.limit ∙ ap (λ (x : TableLayout). x.batch) is.table_layout

  pub limit_by_its_table : (d : Sender E) (actions : List Action) → Shown s seat v trail
      → Accepts P v d actions → (P.queue d).limit ≡ A.table_layout.batch
  limit_by_its_table d actions shown more = limit_stays P K v d actions more ∙ shown_limit shown

  pub by_its_table : (d : Sender E) (actions : List Action) → Shown s seat v trail
      → Accepts P v d actions → P.table_layout d ≡ A.table_layout
  by_its_table d actions shown more =
      (stays P K v d actions more).table_layout ∙ shown_layout shown

-- a sender that looked has the layout of the bus that it looked at
pub looked_layout : {E : Type 0} (P : Process (Sender E)) (A : Automaton (Sender E))
    → ProcessLaws P → AutomatonLaws P A → (d : Sender E)
    (s : Seat (Option Page) (View (Sender E))) → Shows P d s → (new : View (Sender E)) (many : ℕ)
    (fits : Bool) → HasLooked P A s.me.0 many fits new → P.table_layout d ≡ A.table_layout
looked_layout {E} P A K L d s h new many fits look =
    let found = look.looked.0 in
    by_its_table P A K L found.table found.rule found.here.0 h.shown (sender_trail_in s.me.0) d
    h.actions
    (inl (notes_in s.me.0, found.here.1 ∙ ap (λ (m : Sat (Sender E)). some m.0) h.me)) h.accepts

-- a look says yes of no frame that is longer than the log
pub looked_fits : {E : Type 0} (P : Process (Sender E)) (A : Automaton (Sender E))
    → ProcessLaws P → AutomatonLaws P A → (d : Sender E)
    (s : Seat (Option Page) (View (Sender E))) → Shows P d s → (new : View (Sender E)) (fits : Bool)
    → HasLooked P A s.me.0 (batch_len P d) fits new → IsTrue fits → Fits P d
looked_fits {E} P A K L d s h new fits look is =
    let own = looked_layout P A K L d s h new (batch_len P d) fits look in
    let long = ap (λ y. y.capacity) own in
    elim (cases_lt (P.table_layout d).capacity (batch_len P d)) [
      | inl less ↦ absurd (true≢false (sym is
          ∙ never_fits P A s.me.0 new (batch_len P d) fits look (omega arith)))
      | inr low ↦ low
    ]
