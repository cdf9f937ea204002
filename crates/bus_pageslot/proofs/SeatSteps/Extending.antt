-- A sender's step extends the log, and never makes it shorter.
use Rattle.std.proofs.Common.{◌≡◌, ℕ, ◌<◌, Option, Some, List, [], ◌∷◌, length, slice_index}
use Rattle.std.proofs.Common.{slice_set, arith, refl, ◌∙◌, ap, subst}
use mathlib.Core.Option.{some}
use lib.ListN.{get_elem?}
use Rattle.std.proofs.lemmas.List.{get_or-set_same}
use Rattle.std.proofs.lemmas.Grind.{common_steps}
use Rattle.atomic_table.specs.Table.{State}
use Rattle.bus_register.specs.declared.registers.Op.{Op}
use Rattle.bus_register.specs.declared.registers.Op.TheVariants.{Load, Store, Add, Cas}
use Rattle.bus_register.specs.Words.{register, after}
use Rattle.bus_tenure.specs.declared.pages.Page.{Page}
use Rattle.bus_world.specs.Headline.{IsPrefix}
use Rattle.bus_world.specs.Turning.{words_after}
use Rattle.bus_pageslot.specs.declared.rule.View.{View}
use Rattle.bus_pageslot.specs.declared.rule.View.TheVariants.{Sender}
use Rattle.bus_automaton.specs.Processes.{TableLayout, Process, Automaton, log_in}
use Rattle.bus_automaton.specs.Lawful.{AutomatonLaws, ProcessLaws}
use Rattle.bus_pageslot.specs.Histories.{LeavesLog, LeavesRule}
use Rattle.bus_pageslot.specs.Rule.{Sat, sender_trail_in, notes_in, stored_in, IsSeated}
use Rattle.bus_pageslot.specs.Rule.{TableInvariant}
use Rattle.bus_pageslot.specs.Steps.{IsDue, Told}
use Rattle.bus_pageslot.proofs.Ruled.Reaching.{accepted}
use Rattle.bus_pageslot.proofs.Ruled.Ties.{goes_on, no_shorter, front}

-- a list that has a word which is not 0 is not empty
has_word : (ws : List ℕ) (v : ℕ) → v < slice_index ws 0 → 0 < length ws
has_word [] v l = absurd (omega arith)
has_word (w ∷ ws) v l = omega arith

-- who finds a number is told it
told : (o : Op) (n : ℕ) → Told o n n
told (Load at) n = refl
told (Store at value) n = tt
told (Add at value) n = refl
told (Cas at expected value) n = refl

-- the words say what was published
pub same_log : {C : Type 0} {P : Process C} (A : Automaton C) → AutomatonLaws P A
    → A.table_layout.passers ≡ 0 → (z w : A.State) → A.IsReached z → A.IsReached w
    → A.words z ≡ A.words w
    → log_in A z ≡ log_in A w
same_log A L flat z w here there same = grind (arith, common_steps)

module _ {C : Type 0} (P : Process C) (A : Automaton C) (L : AutomatonLaws P A)
    (s : State (Option Page) (View C)) (r : TableInvariant P A s) (id : ℕ) (m : Sat C)
    (at : get_elem? s.views id ≡ some m.0) (d : C) (word many : ℕ) where
  pub extends : (o : Op) → IsDue P d word m many o
      → LeavesLog A (words_after s.words (Some o)) (IsPrefix (log_in A r.state))
  extends o due =
      let c = due.shown in
      let seated : IsSeated P A r.state r.seat id c (sender_trail_in m.0) (stored_in m.0) =
      r.views id (Sender c (sender_trail_in m.0) (notes_in m.0))
      (at ∙ ap (λ (y : Sat C). some y.0) due.me) in
      let grown = accepted P A L r.state r.reached c seated.core d due.actions due.accepts in
      let z = grown.state in
      let is = L.senders z (P.me c) d grown.changes.reached grown.changes.here in
      let within = subst (λ (x : TableLayout). register o < x.words) is.table_layout due.below in
      let done =
      L.step z (P.me c) d word o grown.changes.reached grown.changes.here due.due within in
      grind (arith, front, same_log)

  -- and the rule holds after it
  pub rule_after : ProcessLaws P → (o : Op) → IsDue P d word m many o
      → LeavesRule P A s id m d word o (IsPrefix (log_in A r.state))
  rule_after K o due =
      let on = goes_on P A K L id m d word o many due (after o) (λ n. n) (λ n fits. refl) (told o)
      (λ n home. refl) (λ n. refl) s r at in
      record { view = on.0; act = on.1; valid = on.2; rule = on.3; shows = on.4; so = on.5 }

  -- the length says how many words were published
  published_many : (z : A.State) → A.IsReached z → length (log_in A z) ≡ slice_index (A.words z) 0
  published_many z reached = (L.log z reached).long

  -- so no length goes back
  pub never_shorter : (v : ℕ) → v < slice_index s.words 0
      → ¬ IsDue P d word m many (Store record { 0 = 0 } v)
  never_shorter v less due =
      let W = slice_set s.words 0 v in
      let w = extends (Store record { 0 = 0 } v) due in
      grind (arith, no_shorter, published_many, slice_index, get_or-set_same, has_word)
