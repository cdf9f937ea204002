use Rattle.std.proofs.Common.{arith, refl}
use Rattle.bus_pageslot.proofs.seating.cells_of.Goals as goal

pub returns : goal.returns
returns g c =
    let L = c.threads_may_go_by.ensures.automaton c.args.plan in
    record {
      number_is = refl;
      passers_is = (let many = c.passers.ensures.is in
          let all = c.threads_may_go_by.ensures.passers c.args.plan in omega arith);
      passed_room = λ r low. (let behind = L.passed_room r low in let room = L.room in omega arith);
      log_is = c.requires.log;
      capacity_is = c.requires.capacity;
      passed_is = c.passed_place-passed_at.ensures;
      some = (let w = c.requires.served.sizes.log_words.0 in let same = c.requires.capacity in
          omega arith);
      room = L.room;
      few = c.requires.room;
      behind = L.behind;
    }
