-- What a sender is answered is so.
use Rattle.std.proofs.Common.{◌≡◌, ℕ, Option, Some, List, slice_get, slice_index, sym, ◌∙◌, ap}
use Rattle.std.proofs.Common.{subst, arith}
use Rattle.std.proofs.lemmas.Option.{same_Some}
use mathlib.Core.Option.{some}
use lib.ListN.{get_elem?}
use Rattle.atomic_table.specs.Table.{State}
use Rattle.bus_core.specs.Senders.{Sender}
use Rattle.bus_core.specs.Table.{line_now}
use Rattle.bus_machine.specs.Machine.{going, turn_answer, trails_grown}
use Rattle.bus_machine.specs.Telling.{Tells, TurnTells, SenderTells}
use Rattle.bus_register.specs.Words.{register}
use Rattle.bus_register.specs.declared.registers.Op.{Op}
use Rattle.bus_tenure.specs.Core.{Election, Layout}
use Rattle.bus_tenure.specs.declared.pages.Page.{Page}
use Rattle.bus_world.specs.Turning.{number_found}
use Rattle.bus_world.specs.World.{Turn, is_set}
use Rattle.bus_world.specs.declared.events.Answer.TheVariants as answer
use Rattle.bus_world.proofs.Stopping.{shown_there}
use Rattle.bus_automaton.specs.Lawful.{ProcessLaws, AutomatonLaws}
use Rattle.bus_automaton.specs.OneAutomaton.{bus_of, trail_of}
use Rattle.bus_automaton.specs.OneProcess.{process_of}
use Rattle.bus_automaton.specs.SenderTrails.{SenderTrail, with_actions, with_sender_trail}
use Rattle.bus_automaton.proofs.Leading.{takes_turn, grown_trail}
use Rattle.bus_pageslot.specs.Rule.{Sat, sender_trail_in, TableInvariant}
use Rattle.bus_pageslot.specs.Steps.{IsDue, all_in, since_in}
use Rattle.bus_pageslot.specs.Truths.{IsTrueAnswer}
use Rattle.bus_pageslot.specs.declared.rule.View.{View}
use Rattle.bus_pageslot.proofs.SeatSteps.Accepting.{since_is}
use Rattle.bus_pageslot.proofs.SeatSteps.Stepping as stepping

pub told_truly : {E : Type 0} (X : Election E) (x : Layout) (reuse : Option ℕ) (bases : List ℕ)
    (K : ProcessLaws (process_of X))
    (L : AutomatonLaws (process_of X) (bus_of X x reuse bases))
    (s : State (Option Page) (View (Sender E)))
    (r : TableInvariant (process_of X) (bus_of X x reuse bases) s) (id : ℕ) (m : Sat (Sender E))
    (at : get_elem? s.views id ≡ some m.0)
    (d : Sender E) (word many : ℕ) (o : Op) (is_due : IsDue (process_of X) d word m many o)
    → stepping.OfEvents X (λ old e a new. Tells X old e a) x
    → IsTrueAnswer x reuse r d (with_sender_trail (all_in (process_of X) m.0 d)
    ((process_of X).adds d (slice_index s.words (register o)) word)).actions
    ((process_of X).answer d (slice_index s.words (register o)) word)
told_truly {E} X x reuse bases K L s r id m at d word many o is_due law =
    let z = stepping.z X x reuse bases L s r id m at d word many o is_due in
    let b = z.machine in
    let p = is_due.shown.core.me in
    let h = stepping.is_history X x reuse bases L s r id m at d word many o is_due in
    let here = stepping.here X x reuse bases L s r id m at d word many o is_due in
    let low = stepping.low X x reuse bases L s r id m at d word many o is_due in
    let same = stepping.words_are X x reuse bases L s r id m at d word many o is_due in
    let grown = stepping.grown X x reuse bases L s r id m at d word many o is_due in
    let seated = stepping.seated X x reuse bases L s r id m at d word many o is_due in
    let mine = stepping.me_is X x reuse bases L s r id m at d word many o is_due in
    let P = process_of X in
    let l = line_now X d in
    let given = turn_answer b l word in
    let after = trails_grown X b (Turn p word) (answer.Turn given) z.trails in
    let turn = takes_turn X x reuse bases z h p d here word o is_due.due low in
    let goes : going b p ≡ Some d =
    turn.goes
    ∙ ap Some (same_Some _ _
    (sym
    (shown_there (is_set (slice_get b.stopped p)) (slice_get b.senders p) turn.sender turn.goes)
    ∙ here)) in
    let tells : TurnTells b r.state.trails.log p d (after.actions p) given =
    subst (λ g. SenderTells b r.state.trails.log p g (after.actions p) (answer.Turn given)) goes
    (subst (λ w. SenderTells b w p (going b p) (after.actions p) (answer.Turn given)) grown.log
    (stepping.turn_is X x reuse bases L s r id m at d word many o is_due
    (λ old e a new. Tells X old e a) law z.trails h.reached)) in
    let before : trail_of bases z.trails p ≡ with_actions (sender_trail_in m.0) is_due.actions =
    grown.changes.sender_trail ∙ ap (λ t. with_actions t is_due.actions) seated.sender_trail_is in
    let since : since_in P m.0 d ≡ is_due.actions =
    ap (λ (y : Sat (Sender E)). since_in P y.0 d) is_due.me
    ∙ since_is P K is_due.shown d is_due.actions is_due.accepts in
    let all : trail_of bases z.trails p ≡ all_in P m.0 d =
    before ∙ ap (with_actions (sender_trail_in m.0)) (sym since) in
    let adds = λ (t : SenderTrail).
    (with_sender_trail t (P.adds d (slice_index b.words (register o)) word)).actions in
    let did : after.actions p ≡ adds (all_in P m.0 d) =
    ap (λ (t : SenderTrail). t.actions)
    (grown_trail X x reuse bases z h p d here word o is_due.due low) ∙ ap adds all in
    let told : given ≡ P.answer d (slice_index b.words (register o)) word =
    ap (λ q. l.answer (number_found (slice_index b.words) q) word) is_due.due in
    grind (arith, slice_index, register)
