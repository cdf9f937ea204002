use Rattle.std.proofs.Common.{Some, None, slice_index, refl}
use Rattle.bus_machine.proofs.Bases.Served.{served}
use Rattle.bus_tenure.specs.Elections.{elections, election_with}
use Rattle.bus_world.proofs.Serving.{serves}
use Rattle.bus_automaton.specs.Buses.{process_with, automaton_with, layout_by, plan_passers}
use Rattle.bus_automaton.proofs.Beginning.{opens}
use Rattle.bus_automaton.proofs.HandedTells.{handed_tells}
use Rattle.bus_automaton.proofs.RestingTells.{rest_tells}
use Rattle.bus_automaton.proofs.ServedPlans.{one_cause_after, is_layout, few_passers}
use Rattle.bus_automaton.proofs.ServedPlans.{none_apart, as_planned, batch_planned, planned_low}
use Rattle.bus_automaton.proofs.ServedPlans.{has_rows}
use Rattle.bus_automaton.proofs.Owed.{automaton_laws}
use Rattle.bus_automaton.proofs.Turns.{process_laws}
use Rattle.bus_automaton.proofs.laws.threads_may_go_by.Goals as goal

pub returns-clause-process : goal.returns-clause-process
unfolding process_with
returns-clause-process g c =
    let P = g.Q.Ratifier.protocol in
    let X = election_with g.Q.Machine.kind_of g.Q.Machine.op g.Q.Machine.fed P in
    let law = c.election_is_lawful.ensures.lawful.laws 0 in
    process_laws X (elections P 0) law
    (serves g.Q.Machine.kind_of g.Q.Machine.op g.Q.Machine.fed P g.met.Q.Machine.names_each_step
    g.met.Q.Ratifier.own_kinds 0 0 0 0 0 0 law).named

pub returns-clause-tells : goal.returns-clause-tells
unfolding process_with
returns-clause-tells g c v got word answer w =
    handed_tells
    (election_with g.Q.Machine.kind_of g.Q.Machine.op g.Q.Machine.fed g.Q.Ratifier.protocol) v got
    word answer w

pub returns-clause-rests : goal.returns-clause-rests
unfolding process_with
returns-clause-rests g c v word laid none going =
    let P = g.Q.Ratifier.protocol in
    let X = election_with g.Q.Machine.kind_of g.Q.Machine.op g.Q.Machine.fed P in
    let law = c.election_is_lawful.ensures.lawful.laws 0 in
    rest_tells X (elections P 0) law
    (serves g.Q.Machine.kind_of g.Q.Machine.op g.Q.Machine.fed P g.met.Q.Machine.names_each_step
    g.met.Q.Ratifier.own_kinds 0 0 0 0 0 0 law).owner_is
    v word laid none going

pub returns-clause-one_cause : goal.returns-clause-one_cause
returns-clause-one_cause g c plan page why other r s =
    one_cause_after (plan_passers plan) plan.shape plan.reuse page why other r s

pub returns-clause-memory : goal.returns-clause-memory
returns-clause-memory g c plan None ok are r =
    (record { sizes = r.0; shape = ok; bases = are; batch = r.1 }, tt)
returns-clause-memory g c plan (Some page) ok are r =
    (record { sizes = r.0.0; shape = ok; bases = are; batch = r.0.1 }, r.1)

pub returns-clause-no_memory : goal.returns-clause-no_memory
returns-clause-no_memory g c plan None h may = (h.sizes, h.batch)
returns-clause-no_memory g c plan (Some page) h may = ((h.sizes, h.batch), may)

pub returns-clause-numbers : goal.returns-clause-numbers
returns-clause-numbers g c plan s h = h.bases.1 s

pub returns-clause-automaton : goal.returns-clause-automaton
unfolding process_with automaton_with
returns-clause-automaton g c plan =
    let P = g.Q.Ratifier.protocol in
    let X = election_with g.Q.Machine.kind_of g.Q.Machine.op g.Q.Machine.fed P in
    automaton_laws X (elections P plan.shape.rounds) (layout_by P plan)
    (served g.Q.Machine.kind_of g.Q.Machine.op g.Q.Machine.fed P g.met.Q.Machine.names_each_step
    g.met.Q.Ratifier.own_kinds plan.shape
    (c.election_is_lawful.ensures.lawful.laws plan.shape.rounds) plan.reuse (plan_passers plan))
    plan.reuse plan.bases (none_apart P plan.shape plan.reuse plan.ring plan.shape.receivers)

pub returns-clause-passers : goal.returns-clause-passers
unfolding automaton_with
returns-clause-passers g c plan =
    as_planned g.Q.Ratifier.protocol plan.shape plan.reuse (plan_passers plan)

pub returns-clause-opens : goal.returns-clause-opens
unfolding process_with automaton_with
returns-clause-opens g c plan h =
    let P = g.Q.Ratifier.protocol in
    let X = election_with g.Q.Machine.kind_of g.Q.Machine.op g.Q.Machine.fed P in
    opens X (layout_by P plan) plan.reuse plan.bases
    (is_layout P plan.shape plan.reuse (plan_passers plan) h.sizes
    (few_passers plan.reuse plan.ring plan.shape.receivers h.sizes.receivers.1) h.batch)
    (none_apart P plan.shape plan.reuse plan.ring plan.shape.receivers)
    (has_rows plan.shape plan.reuse h.sizes h.shape) h.bases.0
    (λ s. planned_low P plan.shape plan.reuse (plan_passers plan) (slice_index plan.bases s)
    (h.bases.1 s))

pub returns-clause-batch : goal.returns-clause-batch
unfolding automaton_with
returns-clause-batch g c plan =
    batch_planned g.Q.Ratifier.protocol plan.shape plan.reuse (plan_passers plan)

pub returns-clause-bases : goal.returns-clause-bases
unfolding automaton_with
returns-clause-bases g c plan = refl
