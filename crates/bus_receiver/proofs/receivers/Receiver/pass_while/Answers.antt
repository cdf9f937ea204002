use Rattle.std.proofs.Common.{of_calls, ◌≡◌, refl, ◌∙◌, subst}
use Rattle.bus_pageslot.specs.Listening.{Hears}
use Rattle.bus_receiver.specs.Listening.{Begins, Goes, Asks}
use Rattle.bus_receiver.specs.declared.receivers.Next.TheVariants as next
use Rattle.bus_receiver.proofs.Passing.{asks_on_to, only_empty, only_going, only_item, only_end}
use Rattle.bus_receiver.proofs.Passing.{left_at_end, left_at_empty, left_at_going}
use Rattle.bus_receiver.proofs.receivers.Receiver.pass_while.Goals as goal

pub loop-init : goal.loop-init
loop-init g c = (c.requires.callable, Begins, refl, refl)

pub returns-in-Item-clause-passes : goal.returns-in-Item-clause-passes
returns-in-Item-clause-passes g c =
    let h = c.item_turns.ensures.hears in
    let new = c.item_turns.new in
    record {
      old = h.old;
      asked = c.loop.go_on;
      before = asks_on_to _ _ _ _ _ _ c.loop.invariant.1 h.going;
      hears = subst (λ a. Hears h.old a new.self.me)
          (only_item h.answer c.loop.item new.item c.item_turns.result h.writes c.in-Item.is)
          h.hears;
      told = λ stopped. absurd (let no : next.Item new.item ≡ next.Stopped = stopped in cc);
    }

pub returns-in-End-clause-passes : goal.returns-in-End-clause-passes
returns-in-End-clause-passes g c =
    let h = c.item_turns.ensures.hears in
    let new = c.item_turns.new in
    record {
      old = h.old;
      asked = c.loop.go_on;
      before = asks_on_to _ _ _ _ _ _ c.loop.invariant.1 h.going;
      hears = subst (λ a. Hears h.old a new.self.me)
          (only_end h.answer c.loop.item new.item c.item_turns.result h.writes c.in-End.is) h.hears;
      told = λ stopped. absurd (let no : next.End ≡ next.Stopped = stopped in cc);
    }

pub returns-then-not-go_on-clause-passes : goal.returns-then-not-go_on-clause-passes
returns-then-not-go_on-clause-passes g c =
    let h = c.item_turns.ensures.hears in
    let new = c.item_turns.new in
    let empty =
    only_empty h.answer c.loop.item new.item c.item_turns.result h.writes c.in-Empty.is in
    record {
      old = h.old;
      asked = c.loop.go_on;
      before = asks_on_to _ _ _ _ _ _ c.loop.invariant.1 h.going;
      hears = subst (λ a. Hears h.old a new.self.me) empty h.hears;
      told = λ stopped. (c.go_on.new.self, c.if-not-go_on.ensures);
    }

pub loop-preserved-in-Empty : goal.loop-preserved-in-Empty
loop-preserved-in-Empty g c =
    let h = c.item_turns.ensures.hears in
    let new = c.item_turns.new in
    let empty =
    only_empty h.answer c.loop.item new.item c.item_turns.result h.writes c.in-Empty.is in (
      search of_calls,
      Asks h.old c.loop.go_on new.self.me c.go_on.new.self
          (asks_on_to _ _ _ _ _ _ c.loop.invariant.1 h.going)
          (subst (λ a. Hears h.old a new.self.me) empty h.hears) c.if-not-go_on.ensures,
      c.item_turns.ensures.table ∙ c.loop.invariant.2,
      left_at_empty h.answer c.loop.item new.item c.item_turns.result h.writes c.in-Empty.is
          ∙ c.loop.invariant.3,
    )

pub loop-preserved : goal.loop-preserved
loop-preserved g c =
    let h = c.item_turns.ensures.hears in
    let new = c.item_turns.new in
    let goes =
    only_going h.answer c.loop.item new.item c.item_turns.result h.writes c.in-Going.is in (
      c.loop.invariant.0,
      Goes h.old c.loop.go_on h.answer new.self.me
          (asks_on_to _ _ _ _ _ _ c.loop.invariant.1 h.going) h.hears goes.0 goes.1,
      c.item_turns.ensures.table ∙ c.loop.invariant.2,
      left_at_going h.answer c.loop.item new.item c.item_turns.result h.writes c.in-Going.is
          ∙ c.loop.invariant.3,
    )

pub returns-in-End-clause-kept : goal.returns-in-End-clause-kept
returns-in-End-clause-kept g c =
    let h = c.item_turns.ensures.hears in
    left_at_end h.answer c.loop.item c.item_turns.new.item c.item_turns.result h.writes c.in-End.is
    ∙ c.loop.invariant.3

pub returns-then-not-go_on-clause-kept : goal.returns-then-not-go_on-clause-kept
returns-then-not-go_on-clause-kept g c =
    let h = c.item_turns.ensures.hears in
    left_at_empty h.answer c.loop.item c.item_turns.new.item c.item_turns.result h.writes
    c.in-Empty.is ∙ c.loop.invariant.3
