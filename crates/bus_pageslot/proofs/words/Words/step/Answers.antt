use Rattle.std.proofs.Common.{◌<◌, ◌+◌, ◌%◌, ◌^◌, ◌==◌, refl, sym, ◌∙◌, ap, subst, arith}
use Rattle.atomic_table.specs.Seated.{TableId}
use Rattle.bus_register.specs.declared.registers.Op.{Op}
use Rattle.bus_register.specs.declared.registers.Op.TheVariants.{Load, Store, Add, Cas}
use Rattle.bus_register.specs.Words.{register}
use Rattle.bus_automaton.specs.Buses.{process_with, automaton_with}
use Rattle.bus_pageslot.specs.Buses.{BusId}
use Rattle.bus_pageslot.specs.Steps.{Due}
use Rattle.bus_pageslot.proofs.Sends.Counted.{counts_one, goes_counted}
use Rattle.bus_pageslot.proofs.SeatSteps.Walks.{due_within, picked_allowed, swaps}
use Rattle.bus_pageslot.proofs.words.Words.step.Goals as goal

pub load-requires : goal.load-requires
load-requires g c =
    let P = process_with g.Q.Machine.kind_of g.Q.Machine.op g.Q.Machine.fed g.Q.Ratifier.protocol in
    let A = automaton_with g.Q.Machine.kind_of g.Q.Machine.op g.Q.Machine.fed g.Q.Ratifier.protocol
    c.self.inside.table.shared.key in
    let table = sym (ap (λ (b : BusId). b.table) c.self.view_is) in
    let K = c.threads_may_go_by.ensures.process in
    let L = c.threads_may_go_by.ensures.automaton c.self.inside.table.shared.key in
    let k = g.K.Told.core in
    let word = g.K.Told.word in
    let m = c.args.seat.now.me in let many = c.args.seat.now.table_id.words in
    let o : Op = Load c.in-Load.at in
    let due : Due P k word m many o = subst (Due P k word m many) c.in-Load.is c.requires.due in (
      c.requires.table ∙ table,
      subst (λ (z : TableId). register o < z.words) (c.requires.table ∙ table)
          (due_within P k word m many o due),
      picked_allowed P A K L _ _ m k word o many due (λ n. n) (λ n. n) (λ n fits. refl) (λ n. refl)
          (λ d is n home. refl) (λ d is n. refl),
    )

pub store-requires : goal.store-requires
store-requires g c =
    let P = process_with g.Q.Machine.kind_of g.Q.Machine.op g.Q.Machine.fed g.Q.Ratifier.protocol in
    let A = automaton_with g.Q.Machine.kind_of g.Q.Machine.op g.Q.Machine.fed g.Q.Ratifier.protocol
    c.self.inside.table.shared.key in
    let table = sym (ap (λ (b : BusId). b.table) c.self.view_is) in
    let K = c.threads_may_go_by.ensures.process in
    let L = c.threads_may_go_by.ensures.automaton c.self.inside.table.shared.key in
    let k = g.K.Told.core in
    let word = g.K.Told.word in
    let m = c.args.seat.now.me in let many = c.args.seat.now.table_id.words in
    let at = c.in-Store.at in
    let v = c.in-Store.value in
    let o : Op = Store at v in
    let due : Due P k word m many o = subst (Due P k word m many) c.in-Store.is c.requires.due in (
      c.requires.table ∙ table,
      subst (λ (z : TableId). register o < z.words) (c.requires.table ∙ table)
          (due_within P k word m many o due),
      picked_allowed P A K L _ _ m k word o many due (λ n. v) (λ n. v) (λ n fits. refl) (λ n. tt)
          (λ d is n home. K.blind d word at.0 v is v n home)
          (λ d is n. K.mute d word at.0 v is v n),
    )

pub fetch_add-requires : goal.fetch_add-requires
fetch_add-requires g c =
    let P = process_with g.Q.Machine.kind_of g.Q.Machine.op g.Q.Machine.fed g.Q.Ratifier.protocol in
    let A = automaton_with g.Q.Machine.kind_of g.Q.Machine.op g.Q.Machine.fed g.Q.Ratifier.protocol
    c.self.inside.table.shared.key in
    let table = sym (ap (λ (b : BusId). b.table) c.self.view_is) in
    let K = c.threads_may_go_by.ensures.process in
    let L = c.threads_may_go_by.ensures.automaton c.self.inside.table.shared.key in
    let k = g.K.Told.core in
    let word = g.K.Told.word in
    let m = c.args.seat.now.me in let many = c.args.seat.now.table_id.words in
    let o : Op = Add c.in-Add.at c.in-Add.value in
    let due : Due P k word m many o = subst (Due P k word m many) c.in-Add.is c.requires.due in (
      c.requires.table ∙ table,
      subst (λ (z : TableId). register o < z.words) (c.requires.table ∙ table)
          (due_within P k word m many o due),
      picked_allowed P A K L _ _ m k word o many due (λ n. (n + c.in-Add.value) % 2 ^ 64) (λ n. n)
          (λ n fits. let f : n + c.in-Add.value < 2 ^ 64 = fits in omega arith) (λ n. refl)
          (λ d is n home. refl) (λ d is n. refl),
    )

pub compare_exchange-requires : goal.compare_exchange-requires
compare_exchange-requires g c =
    let P = process_with g.Q.Machine.kind_of g.Q.Machine.op g.Q.Machine.fed g.Q.Ratifier.protocol in
    let A = automaton_with g.Q.Machine.kind_of g.Q.Machine.op g.Q.Machine.fed g.Q.Ratifier.protocol
    c.self.inside.table.shared.key in
    let table = sym (ap (λ (b : BusId). b.table) c.self.view_is) in
    let K = c.threads_may_go_by.ensures.process in
    let L = c.threads_may_go_by.ensures.automaton c.self.inside.table.shared.key in
    let k = g.K.Told.core in
    let word = g.K.Told.word in
    let m = c.args.seat.now.me in let many = c.args.seat.now.table_id.words in
    let o : Op = Cas c.in-Cas.at c.in-Cas.expected c.in-Cas.value in
    let due : Due P k word m many o = subst (Due P k word m many) c.in-Cas.is c.requires.due in (
      c.requires.table ∙ table,
      subst (λ (z : TableId). register o < z.words) (c.requires.table ∙ table)
          (due_within P k word m many o due),
      picked_allowed P A K L _ _ m k word o many due _ (λ n. n)
          (λ n fits. swaps (n == c.in-Cas.expected) c.in-Cas.value n) (λ n. refl)
          (λ d is n home. refl) (λ d is n. refl),
    )

pub returns-in-Load-clause-shown : goal.returns-in-Load-clause-shown
returns-in-Load-clause-shown g c =
    let P = process_with g.Q.Machine.kind_of g.Q.Machine.op g.Q.Machine.fed g.Q.Ratifier.protocol in
    let one = counts_one g.Q.Machine.kind_of g.Q.Machine.op g.Q.Machine.fed g.Q.Ratifier.protocol
    c.threads_may_go_by.ensures.process in
    goes_counted P one g.K.Told.core g.K.Told.word c.args.seat.now.me c.args.seat.now.table_id.words
    c.args.op c.load.result c.load.new.seat.me c.requires.due c.load.ensures.2

pub returns-in-Store-clause-shown : goal.returns-in-Store-clause-shown
returns-in-Store-clause-shown g c =
    let P = process_with g.Q.Machine.kind_of g.Q.Machine.op g.Q.Machine.fed g.Q.Ratifier.protocol in
    let one = counts_one g.Q.Machine.kind_of g.Q.Machine.op g.Q.Machine.fed g.Q.Ratifier.protocol
    c.threads_may_go_by.ensures.process in
    goes_counted P one g.K.Told.core g.K.Told.word c.args.seat.now.me c.args.seat.now.table_id.words
    c.args.op c.in-Store.value c.store.new.seat.me c.requires.due c.store.ensures.2

pub returns-in-Add-clause-shown : goal.returns-in-Add-clause-shown
returns-in-Add-clause-shown g c =
    let P = process_with g.Q.Machine.kind_of g.Q.Machine.op g.Q.Machine.fed g.Q.Ratifier.protocol in
    let one = counts_one g.Q.Machine.kind_of g.Q.Machine.op g.Q.Machine.fed g.Q.Ratifier.protocol
    c.threads_may_go_by.ensures.process in
    goes_counted P one g.K.Told.core g.K.Told.word c.args.seat.now.me c.args.seat.now.table_id.words
    c.args.op c.fetch_add.result c.fetch_add.new.seat.me c.requires.due c.fetch_add.ensures.2

pub returns-in-Cas-clause-shown : goal.returns-in-Cas-clause-shown
returns-in-Cas-clause-shown g c =
    let P = process_with g.Q.Machine.kind_of g.Q.Machine.op g.Q.Machine.fed g.Q.Ratifier.protocol in
    let one = counts_one g.Q.Machine.kind_of g.Q.Machine.op g.Q.Machine.fed g.Q.Ratifier.protocol
    c.threads_may_go_by.ensures.process in
    goes_counted P one g.K.Told.core g.K.Told.word c.args.seat.now.me c.args.seat.now.table_id.words
    c.args.op c.compare_exchange.result c.compare_exchange.new.seat.me c.requires.due
    c.compare_exchange.ensures.2
