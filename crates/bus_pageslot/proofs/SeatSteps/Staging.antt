-- The stage of an open tenure is left by its owner alone, which takes the page.
use Rattle.std.proofs.Common.{◌≡◌, ◌≢◌, ℕ, ◌*◌, Option, Some, List, slice_index, sym, ◌∙◌, ap}
use Rattle.std.proofs.Common.{arith}
use Rattle.std.proofs.lemmas.Option.{same_Some}
use Rattle.std.proofs.lemmas.Grind.{common_steps}
use mathlib.Core.Option.{some}
use lib.ListN.{get_elem?}
use Rattle.atomic_table.specs.Table.{State}
use Rattle.bus_core.specs.Senders.{Sender, Does, situation}
use Rattle.bus_core.specs.Table.{line_now}
use Rattle.bus_machine.proofs.Tenures.Own.{own_of}
use Rattle.bus_machine.proofs.Tenures.Takes.{owns_page}
use Rattle.bus_machine.specs.Machine.{found}
use Rattle.bus_machine.specs.Telling.{OpensOnly}
use Rattle.bus_register.specs.Protocol.{Protocol}
use Rattle.bus_register.specs.declared.registers.Op.{Op}
use Rattle.bus_tenure.specs.Core.{Election, Layout}
use Rattle.bus_tenure.specs.Situations.{TakesPage, situation_of}
use Rattle.bus_tenure.specs.declared.pages.Page.{Page}
use Rattle.bus_tenure.specs.declared.turns.Turn.{Turn as Answered}
use Rattle.bus_world.proofs.Serving.{Serves}
use Rattle.bus_world.specs.Turning.{words_after}
use Rattle.bus_world.specs.declared.events.Answer.TheVariants as answer
use Rattle.bus_automaton.specs.Lawful.{AutomatonLaws}
use Rattle.bus_automaton.specs.OneAutomaton.{bus_of}
use Rattle.bus_automaton.specs.OneProcess.{process_of}
use Rattle.bus_automaton.proofs.Owning.{owner_at}
use Rattle.bus_pageslot.specs.Rule.{Sat, TableInvariant}
use Rattle.bus_pageslot.specs.Stages.{TakesPageOf}
use Rattle.bus_pageslot.specs.Steps.{IsDue}
use Rattle.bus_pageslot.specs.declared.rule.View.{View}
use Rattle.bus_pageslot.proofs.SeatSteps.Stepping as stepping

same_turn : (a b : Answered) → answer.Turn a ≡ answer.Turn b → a ≡ b
same_turn a b e = cc

pub owners_leave : {E : Type 0} (X : Election E) (P : Protocol E (Unit {0}) ℕ) (x : Layout)
    (y : Serves X P x) (reuse : Option ℕ) (bases : List ℕ)
    (L : AutomatonLaws (process_of X) (bus_of X x reuse bases))
    (s : State (Option Page) (View (Sender E)))
    (r : TableInvariant (process_of X) (bus_of X x reuse bases) s) (id : ℕ) (m : Sat (Sender E))
    (at : get_elem? s.views id ≡ some m.0)
    (d : Sender E) (word many : ℕ) (o : Op) (is_due : IsDue (process_of X) d word m many o)
    → stepping.OfEvents X (OpensOnly X) x
    → (t : ℕ) → slice_index s.words 1 ≡ 2 * t → slice_index (words_after s.words (Some o)) 1 ≢ 2 * t
    → TakesPageOf X d t o
owners_leave {E} X P x y reuse bases L s r id m at d word many o is_due law t is_open leaves =
    let z = stepping.z X x reuse bases L s r id m at d word many o is_due in
    let p = is_due.shown.core.me in
    let h = stepping.is_history X x reuse bases L s r id m at d word many o is_due in
    let here = stepping.here X x reuse bases L s r id m at d word many o is_due in
    let same = stepping.words_are X x reuse bases L s r id m at d word many o is_due in
    let now = stepping.words_now X x reuse bases L s r id m at d word many o is_due in
    let opens =
    stepping.turn_is X x reuse bases L s r id m at d word many o is_due (OpensOnly X) law t
    (ap (λ w. slice_index w 1) (sym same) ∙ is_open)
    (λ e. leaves (ap (λ w. slice_index (words_after w (Some o)) 1) same
    ∙ ap (λ w. slice_index w 1) (sym now) ∙ e)) in
    let takes : situation X d ≡ Does (TakesPage t) =
    owns_page X d t (situation X d) (found z.machine (line_now X d) word) word
    (same_turn _ _ opens.own) in
    let own = owner_at X P x y reuse bases z h p d here t
    (own_of d.core.layout.passers d.reuse (situation_of X d.core) (TakesPage t) takes) in
    grind (arith, common_steps, stepping.me_is, same_Some)
