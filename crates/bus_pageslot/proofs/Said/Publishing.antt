-- What was published grows by the frame of who stores the length.
use Rattle.std.proofs.Common.{◌≡◌, ℕ, Option, Some, List, ◌++◌, slice_get, slice_index, sym, ◌∙◌}
use Rattle.std.proofs.Common.{ap, drop, subst, ◌<◌, ◌≤◌, arith}
use Rattle.std.proofs.lemmas.Option.{same_Some}
use Rattle.std.proofs.lemmas.Grind.{common_steps}
use mathlib.Core.Option.{some}
use lib.ListN.{get_elem?}
use Rattle.atomic_table.specs.Table.{State}
use Rattle.bus_core.specs.Senders.{Sender}
use Rattle.bus_core.specs.Table.{line_now}
use Rattle.bus_machine.proofs.Frames.Framed.{floor_first, log_straight}
use Rattle.bus_machine.specs.Machine.{Machine, ShowsLog, going}
use Rattle.bus_machine.specs.Promise.{Follows}
use Rattle.bus_machine.specs.Machine.{words_of_frame}
use Rattle.bus_register.specs.Words.{register}
use Rattle.bus_register.specs.declared.registers.Op.{Op}
use Rattle.bus_tenure.specs.Core.{Election, Layout}
use Rattle.bus_tenure.specs.declared.pages.Page.{Page}
use Rattle.bus_world.specs.Turning.{words_after}
use Rattle.bus_world.specs.World.{is_set}
use Rattle.bus_world.proofs.Stopping.{shown_there}
use Rattle.bus_automaton.specs.Lawful.{AutomatonLaws}
use Rattle.bus_automaton.specs.OneAutomaton.{bus_of}
use Rattle.bus_automaton.specs.OneProcess.{process_of, table_layout_by}
use Rattle.bus_automaton.specs.Processes.{log_below}
use Rattle.bus_automaton.proofs.Leading.{grows_by, next, next_reached, takes_turn}
use Rattle.bus_automaton.specs.OneAutomaton.{MachineHistory, IsMachineHistory}
use Rattle.bus_pageslot.specs.Histories.{LeavesLog}
use Rattle.bus_pageslot.specs.Rule.{Sat, TableInvariant}
use Rattle.bus_pageslot.specs.Steps.{IsDue}
use Rattle.bus_pageslot.specs.declared.rule.View.{View}
use Rattle.bus_pageslot.proofs.SeatSteps.Stepping as stepping

-- what the cells of a machine show as all that was published stands below the length of its words,
-- where no word of its log is used again
shown_below : {E : Type 0} (m : Machine E) (x : Layout) (reuse : Option ℕ) (log : List ℕ)
    → m.layout ≡ x → m.reuse ≡ reuse → x.passers ≡ 0 → slice_index m.words 0 ≤ x.capacity
    → ShowsLog m log → log_below (table_layout_by x reuse) m.words ≡ log
shown_below m x reuse log sizes rows none few shows =
    grind (arith, common_steps, slice_index, log_straight, drop, floor_first)

pub joins_frame : {E : Type 0} (X : Election E) (x : Layout) (reuse : Option ℕ) (bases : List ℕ)
    (L : AutomatonLaws (process_of X) (bus_of X x reuse bases))
    (s : State (Option Page) (View (Sender E)))
    (r : TableInvariant (process_of X) (bus_of X x reuse bases) s) (id : ℕ) (m : Sat (Sender E))
    (at : get_elem? s.views id ≡ some m.0) (d : Sender E) (word many : ℕ) (o : Op)
    (is_due : IsDue (process_of X) d word m many o)
    → stepping.OfEvents X (Follows X) x
    → LeavesLog (bus_of X x reuse bases) (words_after s.words (Some o))
    (λ log. log ≡ r.state.trails.log ++ words_of_frame (line_now X d).publishes)
joins_frame {E} X x reuse bases L s r id m at d word many o is_due law =
    let z = stepping.z X x reuse bases L s r id m at d word many o is_due in
    let b = z.machine in
    let new = stepping.new X x reuse bases L s r id m at d word many o is_due in
    let p = is_due.shown.core.me in
    let h = stepping.is_history X x reuse bases L s r id m at d word many o is_due in
    let here = stepping.here X x reuse bases L s r id m at d word many o is_due in
    let low = stepping.low X x reuse bases L s r id m at d word many o is_due in
    let same = stepping.words_are X x reuse bases L s r id m at d word many o is_due in
    let turn = takes_turn X x reuse bases z h p d here word o is_due.due low in
    let goes : going b p ≡ Some d =
    turn.goes
    ∙ ap Some (same_Some _ _
    (sym
    (shown_there (is_set (slice_get b.stopped p)) (slice_get b.senders p) turn.sender turn.goes)
    ∙ here)) in
    let follows =
    stepping.turn_is X x reuse bases L s r id m at d word many o is_due (Follows X) law in
    let before = stepping.grown X x reuse bases L s r id m at d word many o is_due in
    let done = L.step z p d word o h here is_due.due
    (subst (λ n. register o < n) (L.wide z h) low) in
    let now : done.state.machine.words ≡ new.words = done.words
    ∙ sym (stepping.words_now X x reuse bases L s r id m at d word many o is_due) in
    let step : MachineHistory E = next X x reuse bases z h p d here word o is_due.due low in
    let led : IsMachineHistory X x reuse bases step =
    next_reached X x reuse bases z h p d here word o is_due.due low in
    let stepped : step.machine.words ≡ words_after s.words (Some o) =
    ap (words_after b.words) is_due.due ∙ ap (λ w. words_after w (Some o)) (sym same) in
    record {
      state = step;
      reached = led;
      words_are = stepped;
      so = grows_by X x reuse bases z h p d here word o is_due.due low
          ∙ ap (λ l. l ++ words_of_frame (line_now X d).publishes) before.log;
      log = λ flat w there are. grind (arith, common_steps, slice_index, shown_below);
    }
