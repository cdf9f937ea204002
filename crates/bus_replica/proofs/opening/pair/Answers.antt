use Rattle.std.proofs.Common.{ap, subst, sym, ◌∙◌, length, arith}
use Rattle.bus_automaton.specs.ThreeWordBuses.{automaton, process}
use Rattle.bus_automaton.specs.declared.plans.Plan.{Plan}
use Rattle.std.specs.Option.{option_copied}
use Rattle.bus_replica.specs.Replicas.{LeadTo, Sitting, replayed_by, sitting_of}
use Rattle.bus_replica.proofs.OpeningLaws.{next_sender, next_receiver, one_more, fold_of_none}
use Rattle.bus_replica.proofs.OpeningLaws.{all_made, nobody_left}
use Rattle.bus_replica.proofs.opening.pair.Goals as goal

pub new-requires-clause-table : goal.new-requires-clause-table
new-requires-clause-table g c =
    (next_sender process automaton g.S.State.is_first g.S.State.applies c.args.shape
    (option_copied c.args.page) (replayed_by c.args.order.now) c.loop-receiver.replicas.items
    c.in-Some-next.sender c.in-Some.receiver c.loop-receiver.senders.rest.items
    c.next-in-loop-receiver.new.self.rest.items c.loop-receiver.receiver-iterator.rest.items
    c.next.new.self.rest.items c.in-Some-next.ensures.items c.in-Some.ensures.steps.0
    c.loop-receiver.invariant).table_is
    ∙ sym (ap (λ (b : Sitting). b.table)
    (next_receiver process automaton g.S.State.is_first g.S.State.applies c.args.shape
    (option_copied c.args.page) (replayed_by c.args.order.now)
    c.loop-receiver.replicas.items c.in-Some-next.sender c.in-Some.receiver
    c.loop-receiver.senders.rest.items c.next-in-loop-receiver.new.self.rest.items
    c.loop-receiver.receiver-iterator.rest.items c.next.new.self.rest.items
    c.in-Some-next.ensures.items c.in-Some.ensures.steps.0 c.loop-receiver.invariant).0)

pub new-requires-clause-workers : goal.new-requires-clause-workers
new-requires-clause-workers g c =
    let same = ap (λ (p : Plan). p.shape.senders) c.loop-receiver.invariant.plan_is in
    let few = c.loop-receiver.invariant.few in
    let here = ap (λ (b : Sitting). b.plan.shape.senders)
    (next_receiver process automaton g.S.State.is_first g.S.State.applies c.args.shape
    (option_copied c.args.page) (replayed_by c.args.order.now)
    c.loop-receiver.replicas.items c.in-Some-next.sender c.in-Some.receiver
    c.loop-receiver.senders.rest.items c.next-in-loop-receiver.new.self.rest.items
    c.loop-receiver.receiver-iterator.rest.items c.next.new.self.rest.items
    c.in-Some-next.ensures.items c.in-Some.ensures.steps.0 c.loop-receiver.invariant).0 in
    omega (arith, same, few, here)

pub new-requires-clause-fold : goal.new-requires-clause-fold
new-requires-clause-fold g c =
    fold_of_none (LeadTo g.S.State.is_first g.S.State.applies
    (replayed_by c.of-past.result.value))
    g.S.State.applies c.in-Some.receiver.me
    (automaton c.loop-receiver.invariant.bus.plan).table_layout
    (length c.loop-receiver.replicas.items) c.in_ok-state.state
    (next_receiver process automaton g.S.State.is_first g.S.State.applies c.args.shape
    (option_copied c.args.page) (replayed_by c.args.order.now)
    c.loop-receiver.replicas.items c.in-Some-next.sender c.in-Some.receiver
    c.loop-receiver.senders.rest.items c.next-in-loop-receiver.new.self.rest.items
    c.loop-receiver.receiver-iterator.rest.items c.next.new.self.rest.items
    c.in-Some-next.ensures.items c.in-Some.ensures.steps.0 c.loop-receiver.invariant).1
    (subst (λ z. LeadTo g.S.State.is_first g.S.State.applies (replayed_by z) c.in_ok-state.state)
    (sym c.of-past.ensures) c.in_ok-state.ensures)

pub new-requires-clause-nobody : goal.new-requires-clause-nobody
new-requires-clause-nobody g c =
    nobody_left c.in-Some.receiver.me (automaton c.loop-receiver.invariant.bus.plan).table_layout
    (length c.loop-receiver.replicas.items)
    (next_receiver process automaton g.S.State.is_first g.S.State.applies c.args.shape
    (option_copied c.args.page) (replayed_by c.args.order.now)
    c.loop-receiver.replicas.items c.in-Some-next.sender c.in-Some.receiver
    c.loop-receiver.senders.rest.items c.next-in-loop-receiver.new.self.rest.items
    c.loop-receiver.receiver-iterator.rest.items c.next.new.self.rest.items
    c.in-Some-next.ensures.items c.in-Some.ensures.steps.0 c.loop-receiver.invariant).1

pub loop-receiver-preserved : goal.loop-receiver-preserved
loop-receiver-preserved g c =
    one_more process automaton g.S.State.is_first g.S.State.applies c.args.shape
    (option_copied c.args.page) (replayed_by c.args.order.now) c.loop-receiver.replicas.items
    c.in-Some-next.sender c.in-Some.receiver c.loop-receiver.senders.rest.items
    c.next-in-loop-receiver.new.self.rest.items c.loop-receiver.receiver-iterator.rest.items
    c.next.new.self.rest.items c.in-Some-next.ensures.items c.in-Some.ensures.steps.0
    c.loop-receiver.invariant c.new.result c.push.new.self.items c.in_ok-push.ensures.items
    c.new.ensures.sender
    (c.new.ensures.bus
    ∙ ap (λ z. sitting_of c.in-Some.receiver.bus (replayed_by z)) c.of-past.ensures)
    c.new.ensures.me
    (subst (λ s. LeadTo g.S.State.is_first g.S.State.applies (replayed_by c.args.order.now) s)
    (sym c.new.ensures.state) c.in_ok-state.ensures)
    (λ plan. (c.threads_may_go_by.ensures.automaton plan).started_me)

pub returns : goal.returns
returns g c =
    let rest = c.loop-receiver.receiver-iterator.rest in
    record {
      opened = all_made process automaton g.S.State.is_first g.S.State.applies c.args.shape
          (option_copied c.args.page) (replayed_by c.args.order.now)
          c.loop-receiver.replicas.items c.loop-receiver.senders.rest.items rest.items
          c.loop-receiver.invariant (sym rest.ok.0 ∙ c.in-None.ensures.steps.0);
    }
