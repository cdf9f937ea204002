use Rattle.std.proofs.Common.{◌≡◌, ◌+◌, ◌*◌, refl, arith, sym, ◌∙◌, ap, subst}
use Rattle.bus_automaton.specs.Buses.{process_with, automaton_with}
use Rattle.bus_automaton.specs.Processes.{passed_word}
use Rattle.bus_core.specs.declared.limits.TheConstants.{PASSED_APART}
use Rattle.bus_pageslot.specs.Buses.{BusId}
use Rattle.bus_pageslot.specs.Looks.{IsFoundOn, IsSenders}
use Rattle.bus_pageslot.specs.Rule.{with_look}
use Rattle.bus_pageslot.proofs.Sends.Looking.{Found, found_none, found_more, lesser_low}
use Rattle.bus_pageslot.proofs.Sends.Looking.{seen_none, seen_some, senders_look}
use Rattle.bus_pageslot.proofs.buses.Bus.floor_seen.Goals as goal

pub returns-then-passers-eq0-clause-floor : goal.returns-then-passers-eq0-clause-floor
returns-then-passers-eq0-clause-floor g c =
    let P = process_with g.Q.Machine.kind_of g.Q.Machine.op g.Q.Machine.fed g.Q.Ratifier.protocol in
    let B =
    automaton_with g.Q.Machine.kind_of g.Q.Machine.op g.Q.Machine.fed g.Q.Ratifier.protocol in
    seen_none P (B c.args.self.now.plan) c.args.seat.now.me.0 c.args.seat.now.me.0 c.args.length
    (ap (λ (b : BusId). (B b.plan).table_layout.passers) (sym c.self.view_is)
    ∙ sym c.self.invariant.4.passers ∙ c.if-passers-eq0.true) refl

pub loop-r-init : goal.loop-r-init
loop-r-init g c =
    let P = process_with g.Q.Machine.kind_of g.Q.Machine.op g.Q.Machine.fed g.Q.Ratifier.protocol in
    let B =
    automaton_with g.Q.Machine.kind_of g.Q.Machine.op g.Q.Machine.fed g.Q.Ratifier.protocol in
    let view = c.args.seat.now.me.0 in (
      omega arith,
      (refl, refl),
      refl,
      omega arith,
      found_none P (B c.args.self.now.plan) view view c.args.length refl,
      c.requires.sender,
    )

pub look-requires-clause-sender : goal.look-requires-clause-sender
look-requires-clause-sender g c = c.loop-r.invariant.5

pub loop-r-preserved : goal.loop-r-preserved
loop-r-preserved g c =
    let P = process_with g.Q.Machine.kind_of g.Q.Machine.op g.Q.Machine.fed g.Q.Ratifier.protocol in
    let B =
    automaton_with g.Q.Machine.kind_of g.Q.Machine.op g.Q.Machine.fed g.Q.Ratifier.protocol in
    let A = B c.args.self.now.plan in
    let x = A.table_layout in
    let L = c.threads_may_go_by.ensures.automaton c.args.self.now.plan in
    let places = c.self.inside.places in
    let r = c.loop-r.r in
    let before = c.loop-r.invariant in
    let got = c.look.result in
    let mid = c.loop-r.seat.me.0 in
    let new = c.look.new.seat.me.0 in
    let here = places.passed + PASSED_APART * r in
    let at : here ≡ passed_word x r =
    ap (λ p. p + PASSED_APART * r)
    (c.self.invariant.4.passed
    ∙ ap (λ (b : BusId). (B b.plan).table_layout.passed) c.self.view_is) in
    let so : IsFoundOn P A mid (passed_word x r) got =
    subst (λ k. IsFoundOn P A mid k got) at
    (subst (λ (b : BusId). IsFoundOn P (B b.plan) mid here got) c.self.view_is
    c.look.ensures.found) in
    let now : new ≡ with_look mid (record { word = passed_word x r; found = got }) =
    ap (λ m. m.0) c.look.ensures.looks
    ∙ ap (λ k. with_look mid (record { word = k; found = got })) at in (
      omega arith,
      (c.look.ensures.table.0 ∙ before.1.0, c.look.ensures.table.1 ∙ before.1.1),
      ap (λ m. m.1) c.look.ensures.looks ∙ before.2,
      (let low = lesser_low got c.loop-r.least in
          let is = c.lesser-least.ensures in
          let most = before.3 in omega arith),
      subst (λ n. Found P A c.args.seat.now.me.0 (r + 1) c.args.length n new)
          (sym c.lesser-least.ensures)
          (found_more P A c.args.seat.now.me.0 mid new r c.args.length c.loop-r.least got
          L.passed_behind before.4 so now),
      subst IsSenders (sym now)
          (senders_look (record { word = passed_word x r; found = got }) mid before.5),
    )

pub returns-clause-floor : goal.returns-clause-floor
returns-clause-floor g c =
    let P = process_with g.Q.Machine.kind_of g.Q.Machine.op g.Q.Machine.fed g.Q.Ratifier.protocol in
    let B =
    automaton_with g.Q.Machine.kind_of g.Q.Machine.op g.Q.Machine.fed g.Q.Ratifier.protocol in
    let places = c.self.inside.places in
    let most = c.loop-r.invariant.0 in
    let least = c.loop-r-test.false in
    let all : c.loop-r.r ≡ places.passers = omega arith in
    let many = c.self.invariant.4.passers
    ∙ ap (λ (b : BusId). (B b.plan).table_layout.passers) c.self.view_is in
    seen_some P (B c.args.self.now.plan) c.args.seat.now.me.0 c.loop-r.seat.me.0 c.loop-r.r
    c.args.length c.loop-r.least (λ none. c.if-passers-eq0.false (sym all ∙ none)) (all ∙ many)
    c.loop-r.invariant.4
