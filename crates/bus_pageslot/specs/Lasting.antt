-- What was published stays published: what loads leave of a table, and seats that are made, joined
-- and cut apart; and tables one after another.
use Rattle.std.specs.Prelude.{◌≡◌, ◌≢◌, ℕ, Option, Some, List, [], ◌∷◌, ◌++◌, slice_index}
use Rattle.std.specs.Prelude.{slice_set}
use mathlib.Core.Option.{some}
use lib.ListN.{get_elem?}
use Rattle.atomic_table.specs.Table.{State, homes_after}
use Rattle.bus_register.specs.declared.limits.TheConstants.{PASSED_ALL}
use Rattle.bus_register.specs.declared.registers.Op.{Op}
use Rattle.bus_tenure.specs.Core.{length_at}
use Rattle.bus_tenure.specs.declared.pages.Page.{Page}
use Rattle.bus_world.specs.Headline.{IsPrefix}
use Rattle.bus_world.specs.Turning.{words_after}
use Rattle.bus_automaton.specs.Processes.{TableLayout, Process, Automaton, base_in, log_in}
use Rattle.bus_automaton.specs.Processes.{passed_word}
use Rattle.bus_pageslot.specs.Histories.{LeavesRule}
use Rattle.bus_pageslot.specs.Listening.{FindsLength, FindsWord}
use Rattle.bus_pageslot.specs.ReceiverViews.{ReceiverView, left_for_good, passed_on}
use Rattle.bus_pageslot.specs.ReceiverViews.{receiver_tried}
use Rattle.bus_pageslot.specs.Rings.{LeavesAll}
use Rattle.bus_pageslot.specs.Rule.{Sat, TableInvariant, cut_left, cut_right, tap_left, tap_right}
use Rattle.bus_pageslot.specs.Rule.{first_of, second_of, views_joined, with_look}
use Rattle.bus_pageslot.specs.Rule.{log_word_in, receiver_view_in}
use Rattle.bus_pageslot.specs.Steps.{IsDue, Learns, Meets, Reads, copy_of, view_forked}
use Rattle.bus_pageslot.specs.declared.rule.View.{View}
use Rattle.bus_pageslot.specs.declared.rule.View.TheVariants.{Tap, Spent}

-- The rule holds of the table once its seats show this, with the words and the page that it has;
-- and the same was published.
pub record LeavesViews {C : Type 0} (P : Process C) (A : Automaton C)
    (s : State (Option Page) (View C)) (r : TableInvariant P A s) (views : List (View C)) :
    Type 0 where
  pub rule : TableInvariant P A record { words = s.words; homes = s.homes; views = views }
  pub log : log_in A rule.state ≡ log_in A r.state

-- the same where this seat shows another view than before, and all others show what they showed
abbrev pub LeavesOthers : {C : Type 0} → (P : Process C) → (A : Automaton C)
    → (s : State (Option Page) (View C)) → TableInvariant P A s → ℕ → View C → Type 0
LeavesOthers P A s r seat view = LeavesViews P A s r (slice_set s.views seat view)

-- ---- one step
-- A receiver loaded a word of a table with these words: the length, or a word of the log, by a turn
-- or beside its turns. Its seat shows this view then.
pub data LoadsOne {C : Type 0} (words : List ℕ) (m : Sat C) (view : View C) : Type 0 where
  Length : Learns m (slice_index words length_at) (view, m.1) → LoadsOne words m view
  LengthInTurn : FindsLength m (slice_index words length_at) (view, m.1) → LoadsOne words m view
  Word : (at : ℕ) → Reads m at (slice_index words at) (view, m.1) → LoadsOne words m view
  WordInTurn : FindsWord m
      (slice_index words (log_word_in m.0 (receiver_view_in m.0).place)) (view, m.1)
      → LoadsOne words m view

-- A receiver stored a number in its passed place: its place, or the one past all places. Its seat
-- shows this view then.
pub data StoresOne {C : Type 0} (x : TableLayout) (e : ReceiverView) : (number : ℕ) → View C
    → Type 0 where
  Place : StoresOne x e e.place (Tap x (passed_on e (passed_word x e.me)))
  PastAll : StoresOne x e PASSED_ALL (Tap x (left_for_good e (passed_word x e.me)))

-- a table of which the rule holds
pub record RuledTable {C : Type 0} (P : Process C) (A : Automaton C) : Type 0 where
  pub table : State (Option Page) (View C)
  pub rule : TableInvariant P A table

-- all that was published on it
abbrev pub published : {C : Type 0} → {P : Process C} → {A : Automaton C} → RuledTable P A → List ℕ
published {A = A} t = log_in A t.rule.state

-- One step led from one table to the other, and the rule holds after it as the laws of such a step
-- say: of a sender a step that was due of it, or a look; of a receiver a store in its passed place,
-- or a load; a load by joined seats; a receiver's seat went into another; joined seats were cut
-- apart; the maker of seats cut one of a sender or of a receiver; a receiver forked to a number, or
-- tried to; or a copy of one was cut off.
pub data StepsTo {C : Type 0} (P : Process C) (A : Automaton C) (s : RuledTable P A) :
    RuledTable P A → Type 0 where
  Sends : (seat : ℕ) (m : Sat C) (d : C) (word many : ℕ) (o : Op)
      → get_elem? s.table.views seat ≡ some m.0 → IsDue P d word m many o
      → (w : LeavesRule P A s.table seat m d word o (IsPrefix (published s)))
      → StepsTo P A s record {
        table = record {
          words = words_after s.table.words (Some o);
          homes = homes_after s.table.homes m.1 w.act;
          views = slice_set s.table.views seat w.view;
        };
        rule = w.rule;
      }
  Looks : (seat : ℕ) (v : View C) (at : ℕ) → get_elem? s.table.views seat ≡ some v
      → (w : LeavesOthers P A s.table s.rule seat
      (with_look v (record { word = at; found = slice_index s.table.words at })))
      → StepsTo P A s record {
        table = record {
          words = s.table.words;
          homes = s.table.homes;
          views = slice_set s.table.views seat
              (with_look v (record { word = at; found = slice_index s.table.words at }));
        };
        rule = w.rule;
      }
  Stores : (seat : ℕ) (x : TableLayout) (e : ReceiverView) (number : ℕ) (view : View C)
      → get_elem? s.table.views seat ≡ some (Tap x e) → StoresOne x e number view
      → (w : LeavesAll P A s.table s.rule seat (passed_word x e.me) number view)
      → StepsTo P A s record {
        table = record {
          words = slice_set s.table.words (passed_word x e.me) number;
          homes = s.table.homes;
          views = slice_set s.table.views seat view;
        };
        rule = w.rule;
      }
  Loads : (seat : ℕ) (m : Sat C) (view : View C) → get_elem? s.table.views seat ≡ some m.0
      → LoadsOne s.table.words m view → (w : LeavesOthers P A s.table s.rule seat view)
      → StepsTo P A s record {
        table = record {
          words = s.table.words;
          homes = s.table.homes;
          views = slice_set s.table.views seat view;
        };
        rule = w.rule;
      }
  LoadsJoined : (seat : ℕ) (m : Sat C) (view : View C) → get_elem? s.table.views seat ≡ some m.0
      → Meets P m (slice_index s.table.words length_at) (view, m.1)
      → (w : LeavesOthers P A s.table s.rule seat view)
      → StepsTo P A s record {
        table = record {
          words = s.table.words;
          homes = s.table.homes;
          views = slice_set s.table.views seat view;
        };
        rule = w.rule;
      }
  Joins : (seat other : ℕ) (v w : View C) → get_elem? s.table.views seat ≡ some v
      → get_elem? s.table.views other ≡ some w → seat ≢ other
      → (k : LeavesViews P A s.table s.rule
      (slice_set (slice_set s.table.views seat (views_joined v w)) other Spent))
      → StepsTo P A s record {
        table = record {
          words = s.table.words;
          homes = s.table.homes;
          views = slice_set (slice_set s.table.views seat (views_joined v w)) other Spent;
        };
        rule = k.rule;
      }
  Parts : (seat : ℕ) (v : View C) → get_elem? s.table.views seat ≡ some v
      → (k : LeavesViews P A s.table s.rule
      (slice_set s.table.views seat (first_of v) ++ second_of v ∷ []))
      → StepsTo P A s record {
        table = record {
          words = s.table.words;
          homes = s.table.homes;
          views = slice_set s.table.views seat (first_of v) ++ second_of v ∷ [];
        };
        rule = k.rule;
      }
  CutsSender : (seat : ℕ) (v : View C) (p : ℕ) → get_elem? s.table.views seat ≡ some v
      → (k : LeavesViews P A s.table s.rule (slice_set s.table.views seat (cut_left v)
      ++ cut_right (Some (A.started p)) (base_in A p) ∷ []))
      → StepsTo P A s record {
        table = record {
          words = s.table.words;
          homes = s.table.homes;
          views = slice_set s.table.views seat (cut_left v)
              ++ cut_right (Some (A.started p)) (base_in A p) ∷ [];
        };
        rule = k.rule;
      }
  CutsTap : (seat : ℕ) (v : View C) → get_elem? s.table.views seat ≡ some v
      → (k : LeavesViews P A s.table s.rule
      (slice_set s.table.views seat (tap_left v) ++ tap_right v ∷ []))
      → StepsTo P A s record {
        table = record {
          words = s.table.words;
          homes = s.table.homes;
          views = slice_set s.table.views seat (tap_left v) ++ tap_right v ∷ [];
        };
        rule = k.rule;
      }
  Forks : (seat : ℕ) (x : TableLayout) (e : ReceiverView) (number : ℕ)
      → get_elem? s.table.views seat ≡ some (Tap x e)
      → slice_index s.table.words (passed_word x number) ≡ PASSED_ALL
      → (w : LeavesAll P A s.table s.rule seat (passed_word x number) e.passed
      (view_forked (Tap x e) (passed_word x number) number))
      → StepsTo P A s record {
        table = record {
          words = slice_set s.table.words (passed_word x number) e.passed;
          homes = s.table.homes;
          views = slice_set s.table.views seat
              (view_forked (Tap x e) (passed_word x number) number);
        };
        rule = w.rule;
      }
  TriesToFork : (seat : ℕ) (x : TableLayout) (e : ReceiverView) (number : ℕ)
      → get_elem? s.table.views seat ≡ some (Tap x e)
      → slice_index s.table.words (passed_word x number) ≢ PASSED_ALL
      → (w : LeavesOthers P A s.table s.rule seat (Tap x (receiver_tried e (passed_word x number)
      (slice_index s.table.words (passed_word x number)))))
      → StepsTo P A s record {
        table = record {
          words = s.table.words;
          homes = s.table.homes;
          views = slice_set s.table.views seat (Tap x (receiver_tried e (passed_word x number)
              (slice_index s.table.words (passed_word x number))));
        };
        rule = w.rule;
      }
  Copies : (seat : ℕ) (v : View C) → get_elem? s.table.views seat ≡ some v
      → (k : LeavesViews P A s.table s.rule (slice_set s.table.views seat v ++ copy_of v ∷ []))
      → StepsTo P A s record {
        table = record {
          words = s.table.words;
          homes = s.table.homes;
          views = slice_set s.table.views seat v ++ copy_of v ∷ [];
        };
        rule = k.rule;
      }

-- it is of another kind than a step of a sender that was due
abbrev pub IsByOthers : {C : Type 0} → (P : Process C) → (A : Automaton C)
    → (s t : RuledTable P A) → StepsTo P A s t → Type 0
IsByOthers P A s _ (Sends seat m d word many o at due w) = ⊥
IsByOthers P A s _ (Looks seat v at here w) = Unit {0}
IsByOthers P A s _ (Stores seat x e number view at stores w) = Unit {0}
IsByOthers P A s _ (Loads seat m view at loads w) = Unit {0}
IsByOthers P A s _ (LoadsJoined seat m view at meets w) = Unit {0}
IsByOthers P A s _ (Joins seat other v w at there apart k) = Unit {0}
IsByOthers P A s _ (Parts seat v at k) = Unit {0}
IsByOthers P A s _ (CutsSender seat v p at k) = Unit {0}
IsByOthers P A s _ (CutsTap seat v at k) = Unit {0}
IsByOthers P A s _ (Forks seat x e number at free w) = Unit {0}
IsByOthers P A s _ (TriesToFork seat x e number at taken w) = Unit {0}
IsByOthers P A s _ (Copies seat v at k) = Unit {0}

-- any number of such steps, one after another
pub data StepsOn {C : Type 0} (P : Process C) (A : Automaton C) (first : RuledTable P A) :
    RuledTable P A → Type 0 where
  NoneYet : StepsOn P A first first
  OneMore : (s t : RuledTable P A) → StepsOn P A first s → StepsTo P A s t → StepsOn P A first t
