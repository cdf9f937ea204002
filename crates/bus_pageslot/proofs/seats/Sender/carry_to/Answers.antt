use Rattle.std.proofs.Common.{◌≡◌, ◌+◌, [], ◌∷◌, ◌++◌, length, take, drop, sym, ◌∙◌, ap, subst}
use Rattle.std.proofs.Common.{arith}
use Rattle.std.proofs.lemmas.List.{take_all, take_more}
use Rattle.bus_batch.specs.Batches.{IsPutFault}
use Rattle.bus_world.specs.Headline.{HasPut}
use Rattle.bus_automaton.specs.Buses.{process_with}
use Rattle.bus_pageslot.specs.Seats.{actions_of}
use Rattle.bus_pageslot.specs.Sendings.{TakesAll, TakesNone, TakesMore}
use Rattle.bus_pageslot.proofs.Sends.Carries.{carries, refused, takes_seat, split_at}
use Rattle.bus_pageslot.proofs.seats.Sender.carry_to.Goals as goal

pub loop-message-init : goal.loop-message-init
loop-message-init g c = TakesNone

pub returns-in-Err-clause-fault : goal.returns-in-Err-clause-fault
returns-in-Err-clause-fault g c =
    let P = process_with g.Q.Machine.kind_of g.Q.Machine.op g.Q.Machine.fed g.Q.Ratifier.protocol in
    let all = c.as_slice-waiting.result.now in
    let i = c.loop-message.message-index in
    let y = c.message-item.result in
    let parts =
    split_at all i y c.loop-message-test.true c.message-item.is ∙ c.as_slice-waiting.ensures.value
    ∙ c.waiting-messages.ensures in
    let size = ap length (c.as_slice-waiting.ensures.value ∙ c.waiting-messages.ensures) in
    let some = c.loop-message-test.true in
    let there = c.pending.ensures in let here = c.pending-2.ensures in
    let room = c.saturating_sub-room.ensures in let fits = c.if-pending-room.false in
    (refused P c.threads_may_go_by.ensures.process c.args.self.now c.args.next.now (take i all)
    (drop (i + 1) all) y c.loop-message.next
    c.loop-message.invariant parts (omega arith)
    (let same = ap length c.as_slice.ensures.same in
    let short = c.as_slice.ensures.short in omega arith) c.in-Err.fault
    (subst (λ b. IsPutFault (P.queue c.loop-message.next.core) (length b) c.in-Err.fault)
    c.as_slice.ensures.same c.in-Err.ensures.fault)).1

pub returns-in-Err-clause-refused : goal.returns-in-Err-clause-refused
returns-in-Err-clause-refused g c =
    let P = process_with g.Q.Machine.kind_of g.Q.Machine.op g.Q.Machine.fed g.Q.Ratifier.protocol in
    let all = c.as_slice-waiting.result.now in
    let i = c.loop-message.message-index in
    let y = c.message-item.result in
    let parts =
    split_at all i y c.loop-message-test.true c.message-item.is ∙ c.as_slice-waiting.ensures.value
    ∙ c.waiting-messages.ensures in
    let size = ap length (c.as_slice-waiting.ensures.value ∙ c.waiting-messages.ensures) in
    let some = c.loop-message-test.true in
    let there = c.pending.ensures in let here = c.pending-2.ensures in
    let room = c.saturating_sub-room.ensures in let fits = c.if-pending-room.false in
    c.in-Err.ensures.refused
    ∙ ap (λ s. s.core)
    (refused P c.threads_may_go_by.ensures.process c.args.self.now c.args.next.now
    (take i all) (drop (i + 1) all) y c.loop-message.next c.loop-message.invariant parts
    (omega arith)
    (let same = ap length c.as_slice.ensures.same in
    let short = c.as_slice.ensures.short in omega arith) c.in-Err.fault
    (subst (λ b. IsPutFault (P.queue c.loop-message.next.core) (length b) c.in-Err.fault)
    c.as_slice.ensures.same c.in-Err.ensures.fault)).0

pub returns-in-Err-clause-seat : goal.returns-in-Err-clause-seat
returns-in-Err-clause-seat g c =
    let P = process_with g.Q.Machine.kind_of g.Q.Machine.op g.Q.Machine.fed g.Q.Ratifier.protocol in
    c.put.ensures.seat
    ∙ takes_seat P c.threads_may_go_by.ensures.process c.args.next.now
    (take c.loop-message.message-index c.as_slice-waiting.result.now)
    c.loop-message.next c.loop-message.invariant

pub loop-message-preserved : goal.loop-message-preserved
loop-message-preserved g c =
    let P = process_with g.Q.Machine.kind_of g.Q.Machine.op g.Q.Machine.fed g.Q.Ratifier.protocol in
    let all = c.as_slice-waiting.result.now in
    let i = c.loop-message.message-index in
    let y = c.message-item.result in
    let s = c.loop-message.next in
    let bytes = c.as_slice.result.now in
    let more : take (i + 1) all ≡ take i all ++ y ∷ [] =
    take_more all i y c.loop-message-test.true
    ∙ ap (λ z. take i all ++ z ∷ []) (sym c.message-item.is) in
    subst (λ ms. TakesAll P c.args.next.now ms c.put.new.self) (sym more)
    (subst (λ b. TakesAll P c.args.next.now (take i all ++ b ∷ []) c.put.new.self)
    c.as_slice.ensures.same
    (TakesMore (take i all) s bytes c.put.new.self c.loop-message.invariant (record {
      could = c.in_default.ensures.could;
      core = c.in_default.ensures.taken;
      seat = c.put.ensures.seat;
      action = subst (λ k. actions_of P c.put.new.self ≡ actions_of P s ++ HasPut k bytes ∷ [])
          c.in_default.ensures.number
          c.in_default.ensures.action;
    })))

pub returns-clause-carried : goal.returns-clause-carried
returns-clause-carried g c =
    let P = process_with g.Q.Machine.kind_of g.Q.Machine.op g.Q.Machine.fed g.Q.Ratifier.protocol in
    let all = c.as_slice-waiting.result.now in
    carries P c.threads_may_go_by.ensures.process c.args.self.now c.args.next.now
    c.loop-message.next
    (subst (λ ms. TakesAll P c.args.next.now ms c.loop-message.next)
    (take_all c.loop-message.message-index all c.loop-message-test.false
    ∙ c.as_slice-waiting.ensures.value ∙ c.waiting-messages.ensures) c.loop-message.invariant)

pub returns-clause-seat : goal.returns-clause-seat
returns-clause-seat g c =
    let P = process_with g.Q.Machine.kind_of g.Q.Machine.op g.Q.Machine.fed g.Q.Ratifier.protocol in
    takes_seat P c.threads_may_go_by.ensures.process c.args.next.now
    (take c.loop-message.message-index c.as_slice-waiting.result.now) c.loop-message.next
    c.loop-message.invariant
