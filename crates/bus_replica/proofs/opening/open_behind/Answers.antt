use Rattle.std.proofs.Common.{◌≡◌, refl, sym, ap, subst, arith}
use Rattle.std.specs.Prelude.{None}
use Rattle.std.specs.Option.{option_copied}
use Rattle.bus_world.specs.declared.shapes.Shape.{Shape}
use Rattle.bus_automaton.specs.Buses.{ring_plan}
use Rattle.bus_automaton.specs.ThreeWordBuses.{automaton, process}
use Rattle.bus_handles.specs.Handles.{OpenRefused}
use Rattle.bus_replica.specs.Openings.{replica_shape}
use Rattle.bus_replica.specs.Replicas.{replayed_by}
use Rattle.bus_replica.proofs.OpeningLaws.{none_made}
use Rattle.bus_replica.proofs.opening.open_behind.Goals as goal

pub pair-requires : goal.pair-requires
pair-requires g c =
    let is = c.shape_of-shape.ensures in
    none_made process automaton g.S.State.is_first g.S.State.applies c.shape_of-shape.result
    (option_copied c.args.page) (replayed_by c.args.order.now)
    c.in-Ok.senders.items c.in-Ok.receivers.items c.in-Ok.ensures.opened
    (subst (λ (x : Shape). x ≡ replica_shape x.senders x.log_words) (sym is) refl)
    (let same = ap (λ (x : Shape). x.senders) is in
    let few = c.if-workers.false in omega (arith, same, few))

pub returns-in-Err-clause-fault : goal.returns-in-Err-clause-fault
returns-in-Err-clause-fault g c =
    let workers = c.if-workers.false in
    let words = c.if-log_words.false in
    c.fault_of.ensures c.args.workers c.args.log_words (option_copied c.args.page)
    ((omega (arith, workers), omega (arith, workers)), (omega (arith, words), omega (arith, words)))
    (subst (λ (x : Shape). OpenRefused (ring_plan x None) (option_copied c.args.page) c.in-Err.why)
    c.shape_of-shape.ensures c.in-Err.ensures.fault)
