-- No step of a sender lowers the stage; and where rows of words are used again, none is an action
-- in a tenure whose row has gone on.
use Rattle.std.proofs.Common.{◌≡◌, ℕ, ◌≤◌, Option, Some, None, List, [], ◌++◌, slice_index, sym}
use Rattle.std.proofs.Common.{◌∙◌, ap, subst}
use Rattle.std.proofs.lemmas.List.{append-nil, append_cancel_left}
use Rattle.std.proofs.lemmas.List.Elements.{filter-append}
use mathlib.Core.Option.{some}
use lib.ListN.{get_elem?}
use Rattle.atomic_table.specs.Table.{State}
use Rattle.bus_core.specs.Senders.{Sender}
use Rattle.bus_machine.specs.Machine.{Machine}
use Rattle.bus_machine.specs.Promise.{Follows, HasGoneOn as HasGoneOnIn, actions_in, is_in}
use Rattle.bus_register.specs.Words.{register}
use Rattle.bus_register.specs.declared.registers.Op.{Op}
use Rattle.bus_tenure.specs.Core.{Election, Layout}
use Rattle.bus_tenure.specs.declared.pages.Page.{Page}
use Rattle.bus_world.specs.Headline.{Action}
use Rattle.bus_automaton.specs.Lawful.{AutomatonLaws}
use Rattle.bus_automaton.specs.OneAutomaton.{bus_of}
use Rattle.bus_automaton.specs.OneProcess.{process_of}
use Rattle.bus_automaton.specs.SenderTrails.{SenderTrail}
use Rattle.bus_automaton.proofs.Leading.{grown_trail}
use Rattle.bus_pageslot.specs.Rule.{Sat, TableInvariant}
use Rattle.bus_pageslot.specs.SafeSeats.{HasGoneOn, LeavesPast}
use Rattle.bus_pageslot.specs.Steps.{IsDue}
use Rattle.bus_pageslot.specs.declared.rule.View.{View}
use Rattle.bus_pageslot.proofs.SeatSteps.Stepping as stepping

-- ---- what leaves the actions of a tenure as they are adds none to them
none_added : (t : ℕ) (xs ys : List Action) → actions_in t (xs ++ ys) ≡ actions_in t xs
    → actions_in t ys ≡ []
none_added t xs ys e = append_cancel_left (actions_in t xs) (actions_in t ys) []
    (sym (filter-append (is_in t) xs ys) ∙ e ∙ sym (append-nil (actions_in t xs)))

gone_in : {E : Type 0} (m : Machine E) (reuse : Option ℕ) (t : ℕ) → HasGoneOn reuse m.words t
    → HasGoneOnIn m reuse t
gone_in m None t h = h
gone_in m (Some rows) t h = h

pub past_is_left : {E : Type 0} (X : Election E) (x : Layout) (reuse : Option ℕ) (bases : List ℕ)
    (L : AutomatonLaws (process_of X) (bus_of X x reuse bases))
    (s : State (Option Page) (View (Sender E)))
    (r : TableInvariant (process_of X) (bus_of X x reuse bases) s) (id : ℕ) (m : Sat (Sender E))
    (at : get_elem? s.views id ≡ some m.0) (d : Sender E) (word many : ℕ) (o : Op)
    (is_due : IsDue (process_of X) d word m many o)
    → stepping.OfEvents X (Follows X) x → LeavesPast (process_of X) reuse s.words d word o
past_is_left {E} X x reuse bases L s r id m at d word many o is_due law =
    let z = stepping.z X x reuse bases L s r id m at d word many o is_due in
    let p = is_due.shown.core.me in
    let h = stepping.is_history X x reuse bases L s r id m at d word many o is_due in
    let here = stepping.here X x reuse bases L s r id m at d word many o is_due in
    let low = stepping.low X x reuse bases L s r id m at d word many o is_due in
    let follows =
    stepping.turn_is X x reuse bases L s r id m at d word many o is_due (Follows X) law in
    let trail = grown_trail X x reuse bases z h p d here word o is_due.due low in
    let more = ((process_of X).adds d (slice_index z.machine.words (register o)) word).actions in
    subst (λ w. LeavesPast (process_of X) reuse w d word o)
    (sym (stepping.words_are X x reuse bases L s r id m at d word many o is_due)) (record {
      rises = subst (λ w. slice_index z.machine.words 1 ≤ slice_index w 1)
          (stepping.words_now X x reuse bases L s r id m at d word many o is_due) follows.rises;
      leaves = λ t gone. none_added t (z.trails.actions p) more
          (ap (actions_in t) (sym (ap (λ (u : SenderTrail). u.actions) trail))
          ∙ follows.stays z.trails h.reached t p (subst (λ n. HasGoneOnIn z.machine n t)
          (sym h.rows_are) (gone_in z.machine reuse t gone)));
    })
