-- What a sender answers without a step is so: it is a turn of the machine behind the table, which
-- adds no action.
use Rattle.std.proofs.Common.{◌≡◌, ℕ, ◌+◌, ◌*◌, ◌<◌, cond, eq-eqb, Option, Some, List, [], ◌++◌}
use Rattle.std.proofs.Common.{slice_get, slice_index, arith, refl, sym, ◌∙◌, ap, subst}
use Rattle.std.proofs.lemmas.List.{append-nil, nil_from_length}
use Rattle.std.proofs.lemmas.Grind.{common_steps}
use Rattle.atomic_table.specs.Table.{State}
use Rattle.bus_core.specs.Senders.{Sender, Situation, Does, Announces, Validates, Unpins}
use Rattle.bus_core.specs.Senders.{Withdraws, Scans, Clears, ReadsPassed, situation}
use Rattle.bus_core.specs.Table.{Line, line, line_now, rests, rest_at}
use Rattle.bus_machine.specs.Machine.{Machine, Trails, Happens, going, found, machine_after}
use Rattle.bus_machine.specs.Machine.{turn_answer, turn_grown, turn_trails}
use Rattle.bus_machine.specs.Promise.{HasRows}
use Rattle.bus_machine.specs.Telling.{Tells, TurnTells, SenderTells}
use Rattle.bus_machine.proofs.Refused.RefusalLaws.{answers_refused}
use Rattle.bus_tenure.specs.Core.{Election, Layout}
use Rattle.bus_tenure.specs.Situations.{Situation as Own, IsClosed, IsIdle, IsSpent, LooksAtStage}
use Rattle.bus_tenure.specs.Situations.{Elects, TakesPage, AwaitsPage, StoresWord, StoresLength}
use Rattle.bus_tenure.specs.Situations.{GivesBack, HasHanded}
use Rattle.bus_tenure.specs.declared.pages.Page.{Page}
use Rattle.bus_tenure.specs.declared.turns.Turn.{Turn as Answered}
use Rattle.bus_tenure.specs.declared.turns.Turn.TheVariants as turn
use Rattle.bus_world.specs.Trails.{actions_with}
use Rattle.bus_world.specs.Headline.{Action}
use Rattle.bus_world.specs.World.{Turn}
use Rattle.bus_world.specs.declared.events.Answer.TheVariants as answer
use Rattle.bus_automaton.specs.Lawful.{AutomatonLaws, AcceptsIn, IsSender}
use Rattle.bus_automaton.specs.OneAutomaton.{MachineHistory, IsMachineHistory, bus_of}
use Rattle.bus_automaton.specs.OneProcess.{process_of}
use Rattle.bus_automaton.specs.SenderTrails.{SenderTrail}
use Rattle.bus_automaton.proofs.Leading.{all_go}
use Rattle.bus_automaton.specs.Processes.{Process, Automaton, log_in}
use Rattle.bus_pageslot.specs.Histories.{Shown}
use Rattle.bus_pageslot.specs.Rule.{TableInvariant}
use Rattle.bus_pageslot.specs.Steps.{Accepts}
use Rattle.bus_pageslot.specs.Truths.{IsTrueAnswer}
use Rattle.bus_pageslot.specs.declared.rule.View.{View}
use Rattle.bus_pageslot.proofs.Said.Histories.{seated}
use Rattle.bus_pageslot.proofs.Ruled.Reaching.{accepted}
use Rattle.bus_pageslot.proofs.SeatSteps.Stepping.{OfEvents}

-- no action more
none_more : (s : ℕ) (D : ℕ → List Action) → actions_with s [] D s ≡ D s
none_more s D = ap (λ b. D s ++ cond b [] []) (eq-eqb s s refl) ∙ append-nil (D s)

-- ---- a turn without a step
module _ {E : Type 0} (X : Election E) (x : Layout) (reuse : Option ℕ) (bases : List ℕ)
    (z : MachineHistory E) (h : IsMachineHistory X x reuse bases z)
    (p : ℕ) (d : Sender E) (here : slice_get z.machine.senders p ≡ Some d)
    (law : OfEvents X (λ old e a new. Tells X old e a) x) where
  abbrev b : Machine E
  b = z.machine

  abbrev T : Trails
  T = z.trails

  goes : going b p ≡ Some d
  goes = all_go b h.running p ∙ here

  -- the situation of a sender, with its line, and what its turn tells
  abbrev At : Type 0
  At = Situation E × Line E

  abbrev TurnIsSo : At → Type 0
  TurnIsSo a = TurnTells b T.log p d
      ((turn_trails a.0 a.1 p (found b a.1 0) 0 (turn_answer b a.1 0) T).actions p)
      (turn_answer b a.1 0)

  module _ (own : Own E) (given : Answered) (is : situation X d ≡ Does own)
      (none : line X d (Does own) ≡ rests d given) where
    l_is : line_now X d ≡ rests d given
    l_is = ap (line X d) is ∙ none

    abbrev told : Answered
    told = turn_answer b (line_now X d) 0

    takes_turn : Happens X b (Turn p 0) (answer.Turn told) (machine_after b p (line_now X d) 0)
    takes_turn = grind (arith, common_steps, goes, l_is)

    now_so : TurnIsSo (situation X d, line_now X d)
    now_so =
        subst (λ g. SenderTells b T.log p g ((turn_grown X b p g 0 (answer.Turn told) T).actions p)
        (answer.Turn told)) goes
        (law h.served b T h.layout (subst HasRows (sym h.rows_are) h.has_rows) h.reached
        (Turn p 0) (answer.Turn told) (machine_after b p (line_now X d) 0) takes_turn T h.reached)

    still_so : TurnIsSo (Does own, rests d given)
    still_so = subst TurnIsSo (λ i. (is i, l_is i)) now_so

    told_so : TurnTells b T.log p d (T.actions p) given
    told_so = subst (λ a. TurnTells b T.log p d a given) (none_more p T.actions) still_so

  rest_at_so : (s : Situation E) → situation X d ≡ s
      → TurnTells b T.log p d (T.actions p) (rest_at (line X d s))
  rest_at_so (Does IsClosed) i = told_so IsClosed turn.Closed i refl
  rest_at_so (Does IsIdle) i = tt
  rest_at_so (Does IsSpent) i = told_so IsSpent turn.Spent i refl
  rest_at_so (Does LooksAtStage) i = tt
  rest_at_so (Does (Elects t e)) i = tt
  rest_at_so (Does (TakesPage t)) i = tt
  rest_at_so (Does (AwaitsPage t)) i = tt
  rest_at_so (Does (StoresWord t page stored)) i = tt
  rest_at_so (Does (StoresLength t page stored)) i = tt
  rest_at_so (Does (GivesBack t page reason)) i = tt
  rest_at_so (Does (HasHanded t reason)) i = tt
  rest_at_so (Announces t) i = tt
  rest_at_so (Validates t) i = tt
  rest_at_so (Unpins t) i = tt
  rest_at_so (Withdraws t) i = tt
  rest_at_so (Scans r) i = tt
  rest_at_so (Clears r) i = tt
  rest_at_so (ReadsPassed t q) i = tt

  pub rest_so : TurnTells b T.log p d (T.actions p) (rest_at (line_now X d))
  rest_so = rest_at_so (situation X d) refl

-- ---- of a sender that a seat shows, with what it has accepted since
pub rests_truly : {E : Type 0} (X : Election E) (x : Layout) (reuse : Option ℕ) (bases : List ℕ)
    (L : AutomatonLaws (process_of X) (bus_of X x reuse bases))
    (s : State (Option Page) (View (Sender E)))
    (r : TableInvariant (process_of X) (bus_of X x reuse bases) s) (seat : ℕ) (v d : Sender E)
    (sender_trail : SenderTrail) (actions : List Action)
    → Shown s seat v sender_trail → Accepts (process_of X) v d actions
    → OfEvents X (λ old e a new. Tells X old e a) x
    → IsTrueAnswer x reuse r d (sender_trail.actions ++ actions) ((process_of X).rest d)
rests_truly {E} X x reuse bases L s r seat v d sender_trail actions shown more law =
    let P = process_of X in
    let A = bus_of X x reuse bases in
    let p = v.core.me in
    let its_seat = (seated X x reuse bases s r seat v sender_trail shown).1 in
    let grown : AcceptsIn A r.state p d actions =
    accepted P A L r.state r.reached v its_seat.core d actions more in
    let z = grown.state in
    let its : IsSender P A p d = L.senders z p d grown.changes.reached grown.changes.here in
    grind (arith, rest_so)

-- ---- what is refused
-- Closed while the length is 0: nothing was published then
pub closed_refused : {E : Type 0} {P : Process (Sender E)} {A : Automaton (Sender E)}
    → AutomatonLaws P A
    → (x : Layout) (reuse : Option ℕ) (s : State (Option Page) (View (Sender E)))
    (r : TableInvariant P A s) (d : Sender E) (actions : List Action)
    → slice_index s.words 0 ≡ 0 → IsTrueAnswer x reuse r d actions turn.Closed → ⊥
closed_refused {E} {P} {A} L x reuse s r d actions none h =
    let empty : log_in A r.state ≡ [] = nil_from_length (log_in A r.state)
    ((L.log r.state r.reached).long ∙ ap (λ ws. slice_index ws 0) (sym r.words) ∙ none) in
    (answers_refused h.machine (log_in A r.state) d.core.me d actions).closed_with_nothing empty
    h.tells

-- Spent while the last tenure is not opened
pub spent_refused : {E : Type 0} {P : Process (Sender E)} {A : Automaton (Sender E)} (x : Layout)
    (reuse : Option ℕ) (s : State (Option Page) (View (Sender E)))
    (r : TableInvariant P A s) (d : Sender E) (actions : List Action)
    → slice_index s.words 1 + 2 < 2 * x.rows → IsTrueAnswer x reuse r d actions turn.Spent → ⊥
spent_refused x reuse s r d actions low h = grind (arith, common_steps, slice_index)
