-- A step of a sender is one step more that its seat shows.
use Rattle.std.proofs.Common.{◌≡◌, ℕ, ◌+◌, ◌<◌, ◌≤◌, Bool, false, Option, Some, None, is_some}
use Rattle.std.proofs.Common.{List, [], ◌∷◌, ◌++◌, length, drop, arith, refl, ap}
use Rattle.std.proofs.lemmas.Bool.{cases_lt}
use Rattle.std.proofs.lemmas.Bool.Decides.{eqb_tells}
use Rattle.std.proofs.lemmas.List.{length-append}
use Rattle.std.proofs.lemmas.Grind.{common_steps}
use Rattle.bus_adoptcommit.specs.declared.verdicts.Verdict.{Verdict}
use Rattle.bus_batch.specs.Batches.{Pending}
use Rattle.bus_batch.specs.declared.batches.Phase.{Phase}
use Rattle.bus_batch.specs.declared.batches.Phase.TheVariants.{Open, Marking, Closed}
use Rattle.bus_core.specs.Senders.{Situation, Does, Announces, Validates, Unpins, Withdraws, Scans}
use Rattle.bus_core.specs.Senders.{Clears, ReadsPassed, situation}
use Rattle.bus_core.specs.Table.{Line, line_now}
use Rattle.bus_register.specs.Protocol.{Protocol}
use Rattle.bus_register.specs.declared.kinds.Kind.{Kind}
use Rattle.bus_register.specs.declared.registers.Op.{Op}
use Rattle.bus_deliverylog.specs.declared.receiving.RecvTurn.{RecvTurn}
use Rattle.bus_tenure.specs.Core.{length_at}
use Rattle.bus_tenure.specs.Elections.{election_with}
use Rattle.bus_tenure.specs.declared.turns.Turn.{Turn}
use Rattle.bus_world.specs.Headline.{Action, HasPut, HasMarked, Stepped}
use Rattle.bus_world.specs.Trails.{step_action}
use Rattle.bus_automaton.specs.Buses.{process_with}
use Rattle.bus_automaton.specs.Lawful.{ProcessLaws}
use Rattle.bus_automaton.specs.OneProcess.{entries, adds_by}
use Rattle.bus_automaton.specs.Processes.{TableLayout, Process, log_cell, passed_word}
use Rattle.bus_automaton.specs.SenderTrails.{SenderTrail, with_sender_trail}
use Rattle.bus_pageslot.specs.declared.rule.View.{View}
use Rattle.bus_pageslot.specs.declared.rule.View.TheVariants.{Maker, Sender, Tap, Meeting, Telling}
use Rattle.bus_pageslot.specs.declared.rule.View.TheVariants.{Spent}
use Rattle.bus_pageslot.specs.Listening.{Hears, PassIsDue, due_load}
use Rattle.bus_pageslot.specs.ReceiverViews.{ReceiverView}
use Rattle.bus_pageslot.specs.Rule.{Sat, sender_trail_in, receiver_view_in}
use Rattle.bus_pageslot.specs.Seats.{SenderSeat, Took, sender_trail_of}
use Rattle.bus_pageslot.specs.Steps.{puts_from, marks_since, accepted_since, since_in, all_in, Due}
use Rattle.bus_pageslot.specs.Steps.{GoesOn}
use Rattle.bus_pageslot.specs.StepsShown.{steps_among, steps_in, steps_shown}

-- ---- what is accepted is no step
steps_among-append : (xs ys : List Action)
    → steps_among (xs ++ ys) ≡ steps_among xs + steps_among ys
steps_among-append [] ys = omega arith
steps_among-append (HasPut number bytes ∷ xs) ys = steps_among-append xs ys
steps_among-append (HasMarked mark ∷ xs) ys = steps_among-append xs ys
steps_among-append (Stepped t k found chose answer ∷ xs) ys =
    let h = steps_among-append xs ys in omega arith

puts_are_none : (first : ℕ) (messages : List (List ℕ)) → steps_among (puts_from first messages) ≡ 0
puts_are_none first [] = refl
puts_are_none first (bytes ∷ more) = puts_are_none (first + 1) more

marks_are_none : (before now : Phase) → steps_among (marks_since before now) ≡ 0
marks_are_none before Open = refl
marks_are_none Open (Marking mark) = refl
marks_are_none (Marking old) (Marking mark) = refl
marks_are_none Closed (Marking mark) = refl
marks_are_none before Closed = refl

accepted_are_none : (before now : Pending) → steps_among (accepted_since before now) ≡ 0
accepted_are_none before now =
    grind (arith, common_steps, drop, length, steps_among-append, puts_are_none, marks_are_none)

since_is_none : {C : Type 0} (P : Process C) (v : View C) (d : C) → steps_among (since_in P v d) ≡ 0
since_is_none P (Maker x made) d = refl
since_is_none P (Sender c sender_trail notes) d = accepted_are_none (P.queue c) (P.queue d)
since_is_none P (Tap x e) d = refl
since_is_none P (Meeting x e y f) d = refl
since_is_none P (Telling c sender_trail notes x e) d = refl
since_is_none P Spent d = refl

all_counted : {C : Type 0} (P : Process C) (v : View C) (d : C)
    → steps_in (all_in P v d) ≡ steps_in (sender_trail_in v)
all_counted P v d = grind (arith, common_steps, steps_among-append, since_is_none)

-- ---- a step is one
more_counted : (t more : SenderTrail)
    → steps_in (with_sender_trail t more) ≡ steps_in t + steps_in more
more_counted t more = grind (arith, common_steps, steps_among-append, length-append)

some_kind : (due : Option Kind) (o : Op) (t : Option ℕ) (got : ℕ) (chose : Option ℕ) (answer : Turn)
    → is_some due ≡ is_some (Some o)
    → steps_among (step_action due t got chose answer) ≡ 1
some_kind None o t got chose answer e = absurd cc
some_kind (Some k) o t got chose answer e = refl

one_entry : (due : Option Op) (o : Op) (got : ℕ) → due ≡ Some o → length (entries due got) ≡ 1
one_entry due o got e = ap (λ d. length (entries d got)) e

line_counted : {E : Type 0} (z : Situation E) (l : Line E) (got word : ℕ) (o : Op)
    → l.op word ≡ Some o → is_some l.kind ≡ is_some (l.op word)
    → steps_in (adds_by z l got word) ≡ 1
line_counted (Does y) l got word o due named = grind (arith, common_steps, some_kind, is_some)
line_counted (Announces t) l got word o due named =
    let h = one_entry (l.op word) o got due in omega arith
line_counted (Validates t) l got word o due named =
    let h = one_entry (l.op word) o got due in omega arith
line_counted (Unpins t) l got word o due named =
    let h = one_entry (l.op word) o got due in omega arith
line_counted (Withdraws t) l got word o due named =
    let h = one_entry (l.op word) o got due in omega arith
line_counted (Scans s) l got word o due named =
    let h = one_entry (l.op word) o got due in omega arith
line_counted (Clears s) l got word o due named =
    let h = one_entry (l.op word) o got due in omega arith
line_counted (ReadsPassed t p) l got word o due named =
    grind (arith, common_steps, some_kind, is_some)

-- what each step adds to the trail is one step
abbrev pub CountsOne : {C : Type 0} → Process C → Type 0
CountsOne {C} P =
    (d : C) (got word : ℕ) (o : Op) → P.op d word ≡ Some o → steps_in (P.adds d got word) ≡ 1

pub counts_one : {S : Type 0} (kind_of : S → Option Kind) (op : S → ℕ → Option Op)
    (fed : S → ℕ → ℕ → S) (Q : Protocol S Bool Verdict)
    → ProcessLaws (process_with kind_of op fed Q) → CountsOne (process_with kind_of op fed Q)
unfolding process_with
counts_one kind_of op fed Q L d got word o due =
    let X = election_with kind_of op fed Q in
    line_counted (situation X d) (line_now X d) got word o due (L.named d word)

module _ {C : Type 0} (P : Process C) (one : CountsOne P) where
  -- so its seat shows one more
  pub goes_counted :
      (k : Option C) (word : ℕ) (m : Sat C) (words : ℕ) (o : Op) (got : ℕ) (m' : Sat C)
      → Due P k word m words o → GoesOn P k word m got m'
      → steps_shown m'.0 ≡ steps_shown m.0 + 1
  goes_counted None word m words o got m' due gone = absurd due
  goes_counted (Some d) word m words o got m' due gone =
      let now = ap (λ (y : Sat C). steps_shown y.0) gone.now in
      let before = ap (λ (y : Sat C). steps_shown y.0) due.me in
      let more = more_counted (all_in P m.0 d) (P.adds d gone.found word) in
      grind (arith, common_steps, all_counted)

  -- and so does its trail, of a turn
  pub took_counted : (old new : SenderSeat C) (word : ℕ) (answer : Turn) (o : Op)
      → P.op old.core word ≡ Some o → Took P old word answer new
      → steps_in (sender_trail_of P new) ≡ steps_in (sender_trail_of P old) + 1
  took_counted old new word answer o due took =
      let now = ap steps_in took.sender_trail in
      let more = more_counted (sender_trail_of P old) (P.adds old.core took.found word) in
      let step = one old.core took.found word o due in
      omega arith

-- ---- a step of a receiver is one
-- a turn that stores its place notes its passed place
pub passes_noted : {C : Type 0} (x : TableLayout) (e : ReceiverView) (answer : RecvTurn)
    (m : Sat C) → e.ended ≡ false → PassIsDue x e → Hears (Tap x e, []) answer m
    → (receiver_view_in m.0).loads ≡ e.loads ++ passed_word x e.me ∷ []
passes_noted {C} x e answer m going due h =
    ap (λ (y : Sat C). (receiver_view_in y.0).loads) (h.at_pass going due).1

-- and the word that it is of is noted
due_at_length : (x : TableLayout) (e : ReceiverView) → e.place ≡ length e.known
    → due_load x e ≡ length_at
due_at_length x e same = grind (arith, common_steps, eqb_tells, length)

due_at_word : (x : TableLayout) (e : ReceiverView) → e.place < length e.known
    → due_load x e ≡ log_cell x e.place
due_at_word x e below = grind (arith, common_steps, eqb_tells, length)

pub hears_noted : {C : Type 0} (x : TableLayout) (e : ReceiverView) (answer : RecvTurn) (m : Sat C)
    → e.ended ≡ false → (PassIsDue x e → ⊥) → e.place ≤ length e.known
    → Hears (Tap x e, []) answer m
    → (receiver_view_in m.0).loads ≡ e.loads ++ due_load x e ∷ []
hears_noted {C} x e answer m going not_due within h =
    grind (arith, common_steps, cases_lt, length, due_at_word, due_at_length)

-- whichever it is, its seat shows one step more
pub hears_counted :
    {C : Type 0} (x : TableLayout) (e : ReceiverView) (answer : RecvTurn) (m : Sat C)
    → e.ended ≡ false → e.place ≤ length e.known → Hears (Tap x e, []) answer m
    → steps_shown m.0 ≡ length e.loads + 1
hears_counted {C} x e answer m going within h =
    grind (arith, common_steps, length, cases_lt, length-append, eqb_tells)
