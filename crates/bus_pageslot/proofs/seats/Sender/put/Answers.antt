use Rattle.std.proofs.Common.{◌≡◌, ◌<◌, arith, sym, subst}
use Rattle.std.specs.Prelude.{◌+◌, ◌++◌, [], ◌∷◌, IfOk, IfErr, OnOk, length}
use Rattle.bus_automaton.specs.Buses.{process_with}
use Rattle.bus_batch.specs.Batches.{next_of, CanPut, IsPutFault}
use Rattle.bus_register.specs.declared.limits.TheConstants.{NUMBERS}
use Rattle.bus_world.proofs.PlayingLaws.{small_bytes}
use Rattle.bus_world.specs.Headline.{HasPut, puts}
use Rattle.bus_pageslot.specs.Seats.{first_number_of, actions_of}
use Rattle.bus_pageslot.proofs.Ruled.Processes.{next_is}
use Rattle.bus_pageslot.proofs.Sends.Puts.{number_fits, shows_put, put_done, put_counts}
use Rattle.bus_pageslot.proofs.seats.Sender.put.Goals as goal

pub put-requires : goal.put-requires
put-requires g c =
    let P = process_with g.Q.Machine.kind_of g.Q.Machine.op g.Q.Machine.fed g.Q.Ratifier.protocol in
    let core = c.self.inside.core in
    subst (λ n. n < NUMBERS)
    (next_is g.Q.Machine.kind_of g.Q.Machine.op g.Q.Machine.fed g.Q.Ratifier.protocol core)
    (number_fits P c.threads_may_go_by.ensures.process core c.self.inside.seat c.self.invariant.0)

pub invariant_of-self : goal.invariant_of-self
unfolding process_with
invariant_of-self g c = (
  shows_put (process_with g.Q.Machine.kind_of g.Q.Machine.op g.Q.Machine.fed g.Q.Ratifier.protocol)
      c.threads_may_go_by.ensures.process c.self.inside.core c.self.inside.seat c.self.invariant.0
      c.put.new.self
      c.args.bytes.now c.put.result
      (small_bytes c.args.bytes.now (λ i. omega (arith, c.type_inv.bytes i))) c.put.ensures.taken
      c.put.ensures.could c.put.ensures.refused,
  c.self.invariant.1,
)

pub returns-clause-number : goal.returns-clause-number
returns-clause-number g c =
    let P = process_with g.Q.Machine.kind_of g.Q.Machine.op g.Q.Machine.fed g.Q.Ratifier.protocol in
    subst (λ z. IfOk c.put.result (λ number. number ≡ next_of (P.queue z.core))) c.self.view_is
    (subst (λ n. IfOk c.put.result (λ number. number ≡ n))
    (sym (next_is g.Q.Machine.kind_of g.Q.Machine.op g.Q.Machine.fed g.Q.Ratifier.protocol
    c.self.inside.core)) c.put.ensures.number)

pub returns-clause-counts : goal.returns-clause-counts
unfolding process_with
returns-clause-counts g c =
    let P = process_with g.Q.Machine.kind_of g.Q.Machine.op g.Q.Machine.fed g.Q.Ratifier.protocol in
    subst (λ z.
    IfOk c.put.result (λ number. number ≡ first_number_of P z + length (puts (actions_of P z))))
    c.self.view_is
    (put_counts P c.threads_may_go_by.ensures.process c.self.inside.core c.self.inside.seat
    c.self.invariant.0 c.args.bytes.now c.put.result
    (subst (λ n. IfOk c.put.result (λ number. number ≡ n))
    (sym (next_is g.Q.Machine.kind_of g.Q.Machine.op g.Q.Machine.fed g.Q.Ratifier.protocol
    c.self.inside.core)) c.put.ensures.number) c.put.ensures.could)

pub returns-clause-taken : goal.returns-clause-taken
unfolding process_with
returns-clause-taken g c =
    let P = process_with g.Q.Machine.kind_of g.Q.Machine.op g.Q.Machine.fed g.Q.Ratifier.protocol in
    subst (λ z. OnOk c.put.result (c.put.new.self ≡ P.with_message z.core c.args.bytes.now))
    c.self.view_is c.put.ensures.taken

pub returns-clause-action : goal.returns-clause-action
unfolding process_with
returns-clause-action g c =
    let P = process_with g.Q.Machine.kind_of g.Q.Machine.op g.Q.Machine.fed g.Q.Ratifier.protocol in
    subst (λ z. IfOk c.put.result (λ number.
    actions_of P (record { core = c.put.new.self; seat = c.self.inside.seat })
    ≡ actions_of P z ++ HasPut number c.args.bytes.now ∷ [])) c.self.view_is
    (put_done P c.threads_may_go_by.ensures.process c.self.inside.core c.self.inside.seat
    c.self.invariant.0 c.put.new.self
    c.args.bytes.now c.put.result
    (small_bytes c.args.bytes.now (λ i. omega (arith, c.type_inv.bytes i)))
    (subst (λ n. IfOk c.put.result (λ number. number ≡ n))
    (sym (next_is g.Q.Machine.kind_of g.Q.Machine.op g.Q.Machine.fed g.Q.Ratifier.protocol
    c.self.inside.core)) c.put.ensures.number)
    c.put.ensures.taken c.put.ensures.could)

pub returns-clause-could : goal.returns-clause-could
unfolding process_with
returns-clause-could g c =
    let P = process_with g.Q.Machine.kind_of g.Q.Machine.op g.Q.Machine.fed g.Q.Ratifier.protocol in
    subst (λ z. OnOk c.put.result (CanPut (P.queue z.core) (length c.args.bytes.now)))
    c.self.view_is c.put.ensures.could

pub returns-clause-fault : goal.returns-clause-fault
unfolding process_with
returns-clause-fault g c =
    let P = process_with g.Q.Machine.kind_of g.Q.Machine.op g.Q.Machine.fed g.Q.Ratifier.protocol in
    subst (λ z. IfErr c.put.result (IsPutFault (P.queue z.core) (length c.args.bytes.now)))
    c.self.view_is c.put.ensures.fault
