use Rattle.std.proofs.Common.{◌≡◌, ◌-◌, ◌*◌, ◌<◌, ◌≤◌, ◌^◌, [], refl, arith, sym, ◌∙◌, subst}
use Rattle.std.specs.Vec.{vec_len, vec_capacity}
use Rattle.bus_automaton.specs.declared.plans.Plan.{Plan}
use Rattle.bus_automaton.specs.Buses.{process_with, automaton_with}
use Rattle.bus_core.specs.declared.limits.TheConstants.{PASSED_APART}
use Rattle.bus_pageslot.specs.Places.{AreIn}
use Rattle.bus_pageslot.proofs.Ruled.Openings.{all_here, all_taps_here}
use Rattle.bus_pageslot.proofs.buses.build.Goals as goal

pub returns-clause-table : goal.returns-clause-table
returns-clause-table g c =
    let A = automaton_with g.Q.Machine.kind_of g.Q.Machine.op g.Q.Machine.fed g.Q.Ratifier.protocol
    c.args.plan in (
      all_here
          (process_with g.Q.Machine.kind_of g.Q.Machine.op g.Q.Machine.fed g.Q.Ratifier.protocol) A
          _ c.args.plan.shape.senders _ c.in_ok-senders.ensures.senders,
      all_taps_here A.table_layout _ c.args.plan.shape.receivers _ c.in_ok-taps.ensures,
    )

pub invariant_of-bus : goal.invariant_of-bus
invariant_of-bus g c =
    let B =
    automaton_with g.Q.Machine.kind_of g.Q.Machine.op g.Q.Machine.fed g.Q.Ratifier.protocol in
    let shape = c.args.plan.shape in
    let bases = c.args.plan.bases in
    let log = c.log_at-log.ensures in
    let empty = c.in_ok-room.ensures in
    let table = c.in_ok-words.ensures.bus_table in
    let many = c.passers-passers.ensures.is in
    let passed = log.passed in
    let words = c.requires.served.sizes.log_words.0 in
    subst (λ (p : Plan).
    (shape.senders ≡ p.shape.senders) × (shape.senders ≡ (B p).table_layout.senders)
    × (bases ≡ p.bases) × (bases ≡ (B p).bases)
    × AreIn (B p).table_layout (record {
      log = c.log_at-log.result;
      log_words = shape.log_words;
      passed = c.log_at-log.result - PASSED_APART * c.passers-passers.result;
      passers = c.passers-passers.result;
    })
    × (c.in_ok-words.words.table.words ≡ (B p).table_layout.words)
    × ((B p).table_layout.words ≤ 2 ^ 63)
    × (0 < shape.log_words)
    × (c.in_ok-room.room.items ≡ []) × (vec_len c.in_ok-room.room ≡ 0)
    × (shape.log_words ≤ vec_capacity c.in_ok-room.room))
    (sym c.in_ok-words.ensures.plan) (
      refl,
      log.senders,
      refl,
      log.bases,
      record {
        log = log.log;
        log_words = log.capacity;
        passed = omega arith;
        passers = many ∙ sym log.passers;
      },
      table.words,
      table.room,
      omega arith,
      empty.0,
      empty.1,
      empty.2,
    )
