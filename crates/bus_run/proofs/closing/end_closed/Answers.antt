use Rattle.std.proofs.Common.{◌≡◌, Some, None, inl, inr, arith, refl, sym, ap, subst, ◌∙◌}
use Rattle.bus_automaton.specs.Buses.{plan_passers}
use Rattle.bus_automaton.specs.ThreeWordBuses.{process, automaton}
use Rattle.bus_tenure.specs.declared.pages.Page.{Page}
use Rattle.bus_pageslot.specs.Buses.{BusId}
use Rattle.bus_pageslot.specs.Endings.{IsLeft}
use Rattle.bus_run.specs.Left.{Shown}
use Rattle.bus_run.specs.Stops.{IsOpen}
use Rattle.bus_run.proofs.LeftLemmas.{leaves, stands_whole, front_left}
use Rattle.bus_run.proofs.closing.end_closed.Goals as goal

pub returns-in_default-clause-open : goal.returns-in_default-clause-open
returns-in_default-clause-open g c =
    let seen = c.args.first.me.0 in
    let out = c.in_default.ensures.out in (
      refl,
      inl (record {
        seen = seen;
        ends = refl;
        log = out.0;
        left = stands_whole c.args.the.bus.plan seen out.0 out.1 None c.requires.flat
            (subst (λ (b : BusId). IsLeft process (automaton b.plan) seen out.0 out.1 None)
            c.into_bus.ensures.bus out.2);
      }),
    )

pub returns-then-not-page-clause-open : goal.returns-then-not-page-clause-open
returns-then-not-page-clause-open g c =
    let seen = c.args.first.me.0 in
    let ended = c.in-Ok.ended in
    let left = stands_whole c.args.the.bus.plan seen ended.log ended.floor (Some ended.page)
    c.requires.flat
    (subst
    (λ (b : BusId). IsLeft process (automaton b.plan) seen ended.log ended.floor (Some ended.page))
    c.into_bus.ensures.bus c.in-Ok.ensures.ended) in
    let whole = c.in-Ok.ensures.flat
    (ap (λ (b : BusId). plan_passers b.plan) c.into_bus.ensures.bus ∙ c.requires.flat) in
    let Ends : Shown → Type 0 = λ v. v ≡ seen in
    let of =
    c.in-Ok.ensures.senders ∙ ap (λ (b : BusId). b.plan.shape.senders) c.into_bus.ensures.bus in (
      refl,
      inr (leaves c.args.the.bus.plan c.args.the.bus.plan refl Ends seen ended IsOpen refl of left
          (λ order owners spells.
          sym (c.page.ensures.ended whole order owners spells) ∙ c.if-not-page.true)),
    )

pub returns-clause-left : goal.returns-clause-left
returns-clause-left g c =
    let seen = c.args.first.me.0 in
    let ended = c.in-Ok.ended in
    stands_whole c.args.the.bus.plan seen ended.log ended.floor (Some ended.page) c.requires.flat
    (subst
    (λ (b : BusId). IsLeft process (automaton b.plan) seen ended.log ended.floor (Some ended.page))
    c.into_bus.ensures.bus c.in-Ok.ensures.ended)

pub returns-clause-whole : goal.returns-clause-whole
returns-clause-whole g c = c.in-Ok.ensures.flat
    (ap (λ (b : BusId). plan_passers b.plan) c.into_bus.ensures.bus ∙ c.requires.flat)

pub returns-clause-front : goal.returns-clause-front
returns-clause-front g c =
    let seen = c.args.first.me.0 in
    let ended = c.in-Ok.ended in
    front_left c.args.the.bus.plan seen ended.log (Some ended.page) (stands_whole
    c.args.the.bus.plan seen ended.log ended.floor (Some ended.page) c.requires.flat
    (subst
    (λ (b : BusId). IsLeft process (automaton b.plan) seen ended.log ended.floor (Some ended.page))
    c.into_bus.ensures.bus c.in-Ok.ensures.ended))

pub returns-clause-closed : goal.returns-clause-closed
returns-clause-closed g c =
    let whole = c.in-Ok.ensures.flat
    (ap (λ (b : BusId). plan_passers b.plan) c.into_bus.ensures.bus ∙ c.requires.flat) in
    λ order owners spells.
    sym (c.page.ensures.ended whole order owners spells) ∙ c.if-not-page.false

pub returns-clause-words : goal.returns-clause-words
returns-clause-words g c =
    let whole = c.in-Ok.ensures.flat
    (ap (λ (b : BusId). plan_passers b.plan) c.into_bus.ensures.bus ∙ c.requires.flat) in
    let words = sym (ap (λ (page : Page). page.words) c.page.ensures.page) ∙ c.page.ensures.words in
    omega arith
