use Rattle.std.proofs.Common.{◌≡◌, [], ◌∷◌, ◌++◌, length, refl, sym, ap, subst, arith}
use Rattle.bus_batch.specs.Batches.{IsPutFault}
use Rattle.bus_world.specs.Headline.{HasPut}
use Rattle.bus_automaton.specs.Buses.{process_with}
use Rattle.bus_pageslot.specs.Turns.{tells_with}
use Rattle.bus_pageslot.specs.Seats.{actions_of}
use Rattle.bus_pageslot.specs.Sendings.{FillsBatches, Put, limit_of, waiting_of}
use Rattle.bus_pageslot.proofs.Sends.Sending.{same_sender}
use Rattle.bus_pageslot.proofs.Sends.Batching.{stops_full}
use Rattle.bus_pageslot.proofs.seats.Sender.put_or_send.Goals as goal

pub returns-in-Ok-clause-taken : goal.returns-in-Ok-clause-taken
returns-in-Ok-clause-taken g c =
    let P = process_with g.Q.Machine.kind_of g.Q.Machine.op g.Q.Machine.fed g.Q.Ratifier.protocol in
    let T = tells_with g.Q.Machine.kind_of g.Q.Machine.op g.Q.Machine.fed g.Q.Ratifier.protocol in
    let s = c.make_room.new.self in
    λ first messages before.
    subst (λ b. FillsBatches P T first (messages ++ b ∷ []) c.put.new.self) c.as_slice.ensures.same
    (Put messages s c.as_slice.result.now c.put.new.self
    (c.in_default.ensures.sends first messages before) (record {
      could = c.in-Ok.ensures.could;
      core = c.in-Ok.ensures.taken;
      seat = c.put.ensures.seat;
      action = subst
          (λ k. actions_of P c.put.new.self ≡ actions_of P s ++ HasPut k c.as_slice.result.now ∷ [])
          c.in-Ok.ensures.number c.in-Ok.ensures.action;
    }))

pub returns-in-Err-put-clause-stops : goal.returns-in-Err-put-clause-stops
returns-in-Err-put-clause-stops g c =
    let P = process_with g.Q.Machine.kind_of g.Q.Machine.op g.Q.Machine.fed g.Q.Ratifier.protocol in
    let T = tells_with g.Q.Machine.kind_of g.Q.Machine.op g.Q.Machine.fed g.Q.Ratifier.protocol in
    let s = c.make_room.new.self in
    let same = same_sender s c.put.new.self c.in-Err-put.ensures.refused c.put.ensures.seat in
    λ first messages before. (
      subst (FillsBatches P T first messages) (sym same)
          (c.in_default.ensures.sends first messages before),
      record {
        bytes = c.args.message.now;
        next_is = refl;
        short =
            (let size = ap length c.as_slice.ensures.same in
            let short = c.as_slice.ensures.short in omega arith);
        room =
            (let size = ap (λ s. length (waiting_of P s)) same in
            let limit = ap (limit_of P) same in
            let room = c.in_default.ensures.room in omega arith);
        cause = subst (λ d. IsPutFault (P.queue d) (length c.args.message.now) c.in-Err-put.fault)
            (sym c.in-Err-put.ensures.refused)
            (subst (λ b. IsPutFault (P.queue s.core) (length b) c.in-Err-put.fault)
            c.as_slice.ensures.same c.in-Err-put.ensures.fault);
      },
    )

pub returns-in-Err-clause-stops : goal.returns-in-Err-clause-stops
returns-in-Err-clause-stops g c =
    let P = process_with g.Q.Machine.kind_of g.Q.Machine.op g.Q.Machine.fed g.Q.Ratifier.protocol in
    let T = tells_with g.Q.Machine.kind_of g.Q.Machine.op g.Q.Machine.fed g.Q.Ratifier.protocol in
    λ first messages before. stops_full P T c.threads_may_go_by.ensures.process first messages
    c.args.message.now c.in-Err.fault c.args.self.now c.make_room.new.self before
    c.in-Err.ensures.keeps.0 c.in-Err.ensures.keeps.1
