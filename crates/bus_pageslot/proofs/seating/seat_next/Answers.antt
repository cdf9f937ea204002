use Rattle.std.proofs.Common.{◌≡◌, ℕ, ◌<◌, Option, Some, [], arith, subst, sym, ◌∙◌, ap}
use Rattle.atomic_table.specs.Seated.{TableId}
use Rattle.bus_automaton.specs.Buses.{process_with, automaton_with}
use Rattle.bus_automaton.specs.Processes.{base_in}
use Rattle.bus_automaton.specs.declared.plans.Plan.{Plan}
use Rattle.bus_pageslot.specs.Notes.{no_notes}
use Rattle.bus_pageslot.specs.declared.rule.View.TheVariants.{Maker, Sender}
use Rattle.bus_pageslot.specs.Rule.{Sat, stored_in, notes_in, cut_left, cut_right}
use Rattle.bus_pageslot.specs.Steps.{all_in}
use Rattle.bus_pageslot.specs.Steps.Accepts.{Nothing}
use Rattle.bus_pageslot.specs.Seats.{sender_trail_of, notes_of}
use Rattle.bus_automaton.specs.SenderTrails.{new_sender_trail, with_actions}
use Rattle.bus_pageslot.proofs.SeatSteps.Accepting.{since_is}
use Rattle.bus_pageslot.proofs.Ruled.Openings.{shows_new}
use Rattle.bus_pageslot.proofs.seating.seat_next.Goals as goal

pub overflow_cast-me : goal.overflow_cast-me
overflow_cast-me g c =
    let few = c.threads_may_go_by.ensures.few_senders c.args.plan c.requires.served in
    let below = c.requires.below in omega arith

-- the seat that was made shows the sender that the call picks
picked : {C : Type 0} (k : Option C) (n : ℕ) (c : C) (first : ℕ) (m : Sat C) → k ≡ Some c
    → n ≡ first → m ≡ (cut_right k n, [])
    → m ≡ (cut_right (Some c) first, [])
picked k n c first m is from at = at ∙ (λ i. (cut_right (is i) (from i), []))

pub cut_sender-seat-requires-clause-table : goal.cut_sender-seat-requires-clause-table
cut_sender-seat-requires-clause-table g c =
    let A = automaton_with g.Q.Machine.kind_of g.Q.Machine.op g.Q.Machine.fed g.Q.Ratifier.protocol
    c.args.plan in
    let L = c.threads_may_go_by.ensures.automaton c.args.plan in
    let room = L.room in
    let behind = L.behind in (
      c.requires.table,
      subst (λ (z : TableId). 0 < z.words) c.requires.table
          (let w = c.requires.wide.0 in omega arith),
    )

pub cut_sender-seat-requires-clause-maker : goal.cut_sender-seat-requires-clause-maker
cut_sender-seat-requires-clause-maker g c =
    let B =
    automaton_with g.Q.Machine.kind_of g.Q.Machine.op g.Q.Machine.fed g.Q.Ratifier.protocol in
    let key = sym c.requires.key in (
      c.args.me,
      c.requires.maker ∙ ap (λ (p : Plan). (Maker (B p).table_layout c.args.me, [])) key,
      subst (λ (p : Plan). c.args.me < (B p).table_layout.senders) key
          (let l = c.requires.below in let s = c.requires.senders in omega arith),
      c.requires.seated ∙ ap (λ (p : Plan). Some ((B p).started c.args.me)) key,
      c.requires.first ∙ ap (λ (p : Plan). base_in (B p) c.args.me) key,
    )

pub seated-requires-clause-shows : goal.seated-requires-clause-shows
seated-requires-clause-shows g c =
    let P = process_with g.Q.Machine.kind_of g.Q.Machine.op g.Q.Machine.fed g.Q.Ratifier.protocol in
    let A = automaton_with g.Q.Machine.kind_of g.Q.Machine.op g.Q.Machine.fed g.Q.Ratifier.protocol
    c.args.plan in
    let cut = c.cut_sender-seat.ensures in
    shows_new P A (c.threads_may_go_by.ensures.automaton c.args.plan)
    (c.threads_may_go_by.ensures.opens c.args.plan c.requires.served) c.args.me
    (let below = c.requires.below in let many = c.requires.senders in omega arith)
    c.start-core.result c.cut_sender-seat.result c.start-core.ensures
    (picked g.K.Seated.core g.K.Seated.first (A.started c.args.me) (base_in A c.args.me)
    c.cut_sender-seat.result.me c.requires.seated c.requires.first cut.seat)
    (ap (λ (z : TableId). z.words) cut.table.1 ∙ c.requires.wide.0)
    (ap (λ (z : TableId). z.slots) cut.table.1 ∙ c.requires.wide.1)

pub seated-requires-clause-stored : goal.seated-requires-clause-stored
seated-requires-clause-stored g c =
    let A = automaton_with g.Q.Machine.kind_of g.Q.Machine.op g.Q.Machine.fed g.Q.Ratifier.protocol
    c.args.plan in
    ap (λ m. stored_in m.0) (picked g.K.Seated.core g.K.Seated.first (A.started c.args.me)
    (base_in A c.args.me) c.cut_sender-seat.result.me c.requires.seated c.requires.first
    c.cut_sender-seat.ensures.seat)

pub returns-clause-maker : goal.returns-clause-maker
returns-clause-maker g c =
    c.cut_sender-seat.ensures.maker ∙ ap (λ m. (cut_left m.0, m.1)) c.requires.maker

pub returns-clause-seat : goal.returns-clause-seat
returns-clause-seat g c =
    let P = process_with g.Q.Machine.kind_of g.Q.Machine.op g.Q.Machine.fed g.Q.Ratifier.protocol in
    let A = automaton_with g.Q.Machine.kind_of g.Q.Machine.op g.Q.Machine.fed g.Q.Ratifier.protocol
    c.args.plan in
    let cut = c.cut_sender-seat.ensures in
    let me = picked g.K.Seated.core g.K.Seated.first (A.started c.args.me) (base_in A c.args.me)
    c.cut_sender-seat.result.me c.requires.seated c.requires.first cut.seat in
    record {
      core = ap (λ s. s.core) c.seated.ensures ∙ c.start-core.ensures;
      table_is = ap (λ s. s.seat.table_id) c.seated.ensures ∙ cut.table.1;
      sender_trail =
          ap (sender_trail_of P) c.seated.ensures ∙ ap (λ m. all_in P m.0 c.start-core.result) me
          ∙ ap (λ d.
          all_in P
          (Sender (A.started c.args.me) (new_sender_trail (base_in A c.args.me)) no_notes) d)
          c.start-core.ensures
          ∙ ap (with_actions (new_sender_trail (base_in A c.args.me)))
          (since_is P c.threads_may_go_by.ensures.process (A.started c.args.me)
          (A.started c.args.me) [] Nothing);
      notes = ap notes_of c.seated.ensures ∙ ap (λ m. notes_in m.0) me;
    }
