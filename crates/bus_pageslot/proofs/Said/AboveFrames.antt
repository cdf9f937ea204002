-- The tenures of a page that is at home are above that of each frame that stands, and its floor is
-- not past that of the log.
use Rattle.std.proofs.Common.{◌≡◌, ℕ, ◌+◌, ◌<◌, ◌≤◌, Bool, Option, Some, List, [], ◌∷◌, length, map}
use Rattle.std.proofs.Common.{drop, slice_get, inl, arith, sym, ◌∙◌, ap, subst}
use mathlib.Core.Option.{some-injective}
use lib.ListN.{get_elem?}
use Rattle.std.proofs.lemmas.Option.{slice_get_within}
use Rattle.std.proofs.lemmas.Grind.{common_steps}
use Rattle.atomic_table.specs.Table.{State}
use Rattle.bus_adoptcommit.specs.declared.verdicts.Verdict.{Verdict}
use Rattle.bus_register.specs.Protocol.{Protocol}
use Rattle.bus_register.specs.declared.kinds.Kind.{Kind}
use Rattle.bus_register.specs.declared.registers.Op.{Op}
use Rattle.bus_register.specs.declared.registers.SenderNo.{SenderNo}
use Rattle.bus_batch.specs.Frames.{Order, Spells, log_words, order_of, tenure_and_owner}
use Rattle.bus_batch.proofs.FrameLaws.{spells_one}
use Rattle.bus_core.specs.Senders.{Sender}
use Rattle.bus_machine.specs.Machine.{Machine, Trails, floor_of}
use Rattle.bus_machine.specs.Promise.{IsPromisedBy}
use Rattle.bus_tenure.specs.Core.{Election, Layout}
use Rattle.bus_tenure.specs.Elections.{Elector}
use Rattle.bus_tenure.specs.declared.pages.Page.{Page}
use Rattle.bus_automaton.specs.Buses.{process_with, automaton_with}
use Rattle.bus_automaton.specs.Lawful.{floor_in, log_from_floor}
use Rattle.bus_automaton.specs.OneProcess.{table_layout_by}
use Rattle.bus_automaton.specs.declared.plans.Plan.{Plan}
use Rattle.bus_pageslot.specs.Endings.{IsLeft}
use Rattle.bus_pageslot.specs.Histories.{HasHistory}
use Rattle.bus_pageslot.specs.Rule.{slot_of}
use Rattle.bus_pageslot.specs.declared.rule.View.{View}
use Rattle.bus_pageslot.proofs.Said.Endings.{slot_is}
use Rattle.bus_pageslot.proofs.Said.Histories.{elector, sizes}
use Rattle.bus_pageslot.proofs.Said.LastFrames.{last_spell, owner_behind}

module _ {E : Type 0} (X : Election E) (x : Layout) (reuse : Option ℕ) (bases : List ℕ)
    (most : ℕ → ℕ → ℕ) (s : State (Option Page) (View (Sender E)))
    (h : HasHistory X x reuse bases most s) (page : Page)
    (home : s.homes ≡ slot_of (Some page) ∷ []) where
  abbrev m : Machine E
  m = h.history.machine

  abbrev T : Trails
  T = h.history.trails

  by : IsPromisedBy X m T h.promised.order h.promised.owners
  by = h.promised.by

  at_home : m.home ≡ Some page
  at_home = grind (arith, common_steps, slot_is, some-injective, get_elem?)

  -- its floor is that of the log
  floor_same : floor_of m ≡ floor_in (table_layout_by x reuse) s.words
  floor_same =
      λ i. floor_in (table_layout_by (h.reached.layout i) (h.reached.rows_are i)) (sym h.words i)

  floor_below : page.floor ≤ floor_in (table_layout_by x reuse) s.words
  floor_below = subst (λ n. page.floor ≤ n) floor_same (by.floors page (inl at_home))

  -- The owner of a frame took the page of the frame's tenure, and a page at home counts the pages
  -- that were taken.
  above : (log : List ℕ) → log_from_floor (table_layout_by x reuse) s.words ≡ log
      → (order : Order) (owners : List (ℕ × SenderNo)) → Spells x.senders log order owners
      → (place t : ℕ) (o : SenderNo) → slice_get owners place ≡ Some (t, o) → t < page.tenures
  above log stands order owners spells place t o at =
      let frames = by.spelled.frames in
      let b = by.edge in
      let words : drop (floor_of m) (log_words frames) ≡ log =
      ap (drop (floor_of m)) by.spelled.words_are ∙ ap (λ k. drop k T.log) floor_same
      ∙ sym h.shows ∙ stands in
      let own : Spells x.senders log (order_of b.rest) (map tenure_and_owner b.rest) =
      subst (λ (y : ℕ × List ℕ).
      Spells y.0 y.1 (order_of b.rest) (map tenure_and_owner b.rest))
      (λ i. (ap (λ (y : Layout). y.senders) h.reached.layout i, words i))
      (last_spell m.layout.senders frames (floor_of m) b by.spelled.lawful) in
      let same =
      (spells_one x.senders log (order_of b.rest) order (map tenure_and_owner b.rest) owners own
      spells).1 in
      let whole : slice_get h.promised.owners (length b.front + place) ≡ Some (t, o) =
      ap (λ l. slice_get l (length b.front + place)) (sym by.spelled.owners_are)
      ∙ owner_behind m.layout.senders frames (floor_of m) b place
      ∙ ap (λ l. slice_get l place) same ∙ at in
      let took = by.promises.owned (length b.front + place) t o whole in
      let taker = by.takers.takers.only t o.0 took.0 took.1 in
      let within = slice_get_within by.takers.all t o.0 taker in
      let many = by.counts page at_home in omega arith

-- of what a bus of any plan leaves
module _ {S : Type 0} (kind_of : S → Option Kind) (op : S → ℕ → Option Op)
    (fed : S → ℕ → ℕ → S) (Q : Protocol S Bool Verdict) (plan : Plan)
    (most : ℕ → ℕ → ℕ) (seen : View (Sender (Elector S))) (log : List ℕ) (floor : ℕ) (page : Page)
    (left : IsLeft (process_with kind_of op fed Q) (automaton_with kind_of op fed Q plan) seen log
    floor (Some page))
    (h : HasHistory (elector kind_of op fed Q plan) (sizes kind_of op fed Q plan) plan.reuse
    plan.bases most left.table) where
  pub rises_above : (order : Order) (owners : List (ℕ × SenderNo))
      → Spells (automaton_with kind_of op fed Q plan).table_layout.senders log order owners
      → (place t : ℕ) (o : SenderNo) → slice_get owners place ≡ Some (t, o) → t < page.tenures
  unfolding process_with automaton_with
  rises_above =
      above (elector kind_of op fed Q plan) (sizes kind_of op fed Q plan) plan.reuse plan.bases
      most left.table h page left.home_is log left.log_is

  pub stays_below : page.floor ≤ floor
  unfolding process_with automaton_with
  stays_below =
      subst (λ n. page.floor ≤ n) left.floor_is
      (floor_below (elector kind_of op fed Q plan) (sizes kind_of op fed Q plan) plan.reuse
      plan.bases most left.table h page left.home_is)
