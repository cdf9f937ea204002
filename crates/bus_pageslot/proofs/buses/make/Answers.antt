use Rattle.std.proofs.Common.{◌∙◌, refl, sym, subst}
use Rattle.std.specs.Option.{option_copied}
use Rattle.bus_automaton.specs.Buses.{process_with, automaton_with, plan_passers, AreBasesOf}
use Rattle.bus_automaton.specs.Buses.{Serves}
use Rattle.bus_automaton.specs.declared.plans.Plan.{Plan}
use Rattle.bus_machine.proofs.Bases.NewSenders.{no_memory_after, page_after}
use Rattle.bus_machine.specs.Playing.{RefusedWith}
use Rattle.bus_pageslot.specs.Buses.{AreNewSeats, AreNewTaps}
use Rattle.bus_world.proofs.PlayingLaws.{passed_up}
use Rattle.bus_pageslot.proofs.buses.make.Goals as goal

pub build-requires : goal.build-requires
build-requires g c = record {
  served = subst Serves (sym c.in_ok-next.ensures.plan) (record {
    sizes = c.in_default.ensures.served refl;
    shape = c.requires.shape;
    bases = subst AreBasesOf c.in_ok-next.ensures.plan c.in_ok-next.ensures.bases;
    batch = c.in_ok-next.ensures.batch;
  });
}

pub returns-in_err-next-clause-fault : goal.returns-in_err-next-clause-fault
returns-in_err-next-clause-fault g c =
    passed_up _ _ (RefusedWith (plan_passers c.args.plan) c.args.plan.shape c.args.plan.reuse
    (option_copied c.args.page))
    c.from_residual.ensures
    (page_after c.args.plan.shape c.args.plan.reuse (plan_passers c.args.plan)
    (option_copied c.args.page) _
    (c.in_default.ensures.served refl) c.in_err-next.ensures.fault)

pub returns-in_err-made-clause-fault : goal.returns-in_err-made-clause-fault
returns-in_err-made-clause-fault g c =
    passed_up _ _ (RefusedWith (plan_passers c.args.plan) c.args.plan.shape c.args.plan.reuse
    (option_copied c.args.page))
    c.from_residual-in_err-made.ensures
    (no_memory_after c.args.plan.shape c.args.plan.reuse (plan_passers c.args.plan)
    (option_copied c.args.page)
    (c.in_default.ensures.served refl) c.in_ok-next.ensures.batch c.in_ok-next.ensures.follows)

pub returns-clause-plan : goal.returns-clause-plan
returns-clause-plan g c = c.in_ok-made.ensures.plan ∙ c.in_ok-next.ensures.plan

pub returns-clause-senders : goal.returns-clause-senders
returns-clause-senders g c =
    let P = process_with g.Q.Machine.kind_of g.Q.Machine.op g.Q.Machine.fed g.Q.Ratifier.protocol in
    let A =
    automaton_with g.Q.Machine.kind_of g.Q.Machine.op g.Q.Machine.fed g.Q.Ratifier.protocol in
    let made = c.in_ok-made.made in
    subst (λ (p : Plan). AreNewSeats P (A p) made.0.table p.shape.senders made.1.items)
    c.in_ok-next.ensures.plan c.in_ok-made.ensures.senders

pub returns-clause-taps : goal.returns-clause-taps
returns-clause-taps g c =
    let A =
    automaton_with g.Q.Machine.kind_of g.Q.Machine.op g.Q.Machine.fed g.Q.Ratifier.protocol in
    let made = c.in_ok-made.made in
    subst (λ (p : Plan). AreNewTaps (A p).table_layout made.0.table p.shape.receivers made.2.items)
    c.in_ok-next.ensures.plan c.in_ok-made.ensures.taps
