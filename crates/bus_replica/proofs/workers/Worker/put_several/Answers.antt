use Rattle.std.proofs.Common.{◌≡◌, ◌+◌, [], ◌∷◌, ◌++◌, take, ap, sym, subst, ◌∙◌}
use Rattle.std.proofs.Common.{arith}
use Rattle.std.proofs.lemmas.List.{take_all, take_more}
use Rattle.bus_automaton.specs.ThreeWordBuses.{process}
use Rattle.bus_replica.specs.Causes.{tells}
use Rattle.bus_replica.specs.Replicas.{PutsNow}
use Rattle.bus_replica.proofs.SendingLaws.{now_on, stay}
use Rattle.bus_replica.proofs.workers.Worker.put_several.Goals as goal

pub returns-then-count-most-clause-refused : goal.returns-then-count-most-clause-refused
returns-then-count-most-clause-refused g c = stay process tells c.args.self.now.sender

pub loop-message-preserved : goal.loop-message-preserved
loop-message-preserved g c =
    let k = c.loop-message.message-index in
    let first = c.args.first.now in
    let rest = c.args.rest.now in
    let bytes = c.as_slice-in-loop-message.result.now in
    let inv = c.loop-message.invariant in
    let next : take (k + 1) rest ≡ take k rest ++ bytes ∷ [] =
    take_more rest k c.message-item.result c.loop-message-test.true
    ∙ ap (λ z. take k rest ++ z ∷ []) (sym c.message-item.is)
    ∙ ap (λ z. take k rest ++ z ∷ []) (sym c.as_slice-in-loop-message.ensures.same) in
    let waits = inv.open_with.2 in
    let more = c.put_next.ensures.open in
    let more_wait = more.2 in
    let limit = inv.open_with.3 in
    record {
      bus = c.put_next.ensures.bus ∙ inv.bus;
      me = (c.put_next.ensures.me.0 ∙ inv.me.0, c.put_next.ensures.me.1 ∙ inv.me.1);
      put = (
        c.put_next.result,
        subst (λ z. PutsNow process c.args.self.now.sender c.put_next.new.self.sender
            c.put_next.result (first ∷ z)) (sym next)
            (now_on process c.args.self.now.sender c.loop-message.self.sender
            c.put_next.new.self.sender inv.put.0 c.put_next.result (first ∷ take k rest) bytes
            inv.put.1 c.put_next.ensures.put),
      );
      open_with = (more.0, more.1, omega (arith, waits, more_wait), more.3 ∙ limit);
    }

pub returns-clause-put : goal.returns-clause-put
returns-clause-put g c =
    let k = c.loop-message.message-index in
    let first = c.args.first.now in
    let rest = c.args.rest.now in
    let inv = c.loop-message.invariant in
    subst (λ z. PutsNow process c.args.self.now.sender c.put_next-2.new.self.sender
    c.put_next-2.result (first ∷ (z ++ c.args.op.now ∷ [])))
    (take_all k rest c.loop-message-test.false)
    (now_on process c.args.self.now.sender c.loop-message.self.sender
    c.put_next-2.new.self.sender inv.put.0 c.put_next-2.result (first ∷ take k rest) c.args.op.now
    inv.put.1 c.put_next-2.ensures.put)
