use Rattle.std.proofs.Common.{arith, ◌≡◌, ◌∙◌, ap}
use Rattle.bus_pageslot.specs.Rule.{table_layout_in}
use Rattle.bus_receiver.proofs.Tries.{found_layout, found_number, finds_one_more, forks_then}
use Rattle.bus_receiver.proofs.receivers.Receiver.fork.Goals as goal

pub fork-requires-in-loop-next-clause-above : goal.fork-requires-in-loop-next-clause-above
fork-requires-in-loop-next-clause-above g c = λ _.
    let h = c.loop-next.invariant in
    let same = found_number c.args.self.now.me h.1 c.loop-next.self-inside.tap.me h.3 in
    let next = h.2 in
    omega arith

pub fork-requires-in-loop-next-clause-below : goal.fork-requires-in-loop-next-clause-below
fork-requires-in-loop-next-clause-below g c = λ _.
    let h = c.loop-next.invariant in
    let same = ap (λ x. x.passers)
    (found_layout c.args.self.now.me h.1 c.loop-next.self-inside.tap.me h.3) in
    let wide : (table_layout_in c.args.self.now.me.0).passers ≡ c.passers-passers.result = cc in
    omega arith

pub returns-in-Some-clause-made : goal.returns-in-Some-clause-made
returns-in-Some-clause-made g c =
    let h = c.loop-next.invariant in
    let wide : (table_layout_in c.args.self.now.me.0).passers ≡ c.passers-passers.result = cc in
    forks_then c.args.self.now.me h.1 c.loop-next.self-inside.tap.me c.loop-next.next
    c.in-Some.tap.me c.fork-in-loop-next.new.self.me h.3 (omega arith) h.2 (omega arith)
    c.in-Some.ensures.tries c.in-Some.ensures.made

pub loop-next-preserved : goal.loop-next-preserved
loop-next-preserved g c =
    let h = c.loop-next.invariant in
    let wide : (table_layout_in c.args.self.now.me.0).passers ≡ c.passers-passers.result = cc in
    let more = finds_one_more c.args.self.now.me h.1 c.loop-next.self-inside.tap.me c.loop-next.next
    c.fork-in-loop-next.new.self.me h.3 (omega arith) h.2 c.in_default.ensures.tries in
    (c.in_default.ensures.table.0 ∙ h.0, more.0, omega arith, more.2)
