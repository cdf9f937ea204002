use Rattle.std.proofs.Common.{Some, ◌+◌, ◌*◌, ◌≤◌, map, refl, sym, arith, ap, subst}
use Rattle.bus_core.proofs.Reusing.Widths.{few_words}
use Rattle.bus_machine.proofs.Bases.NewSenders.{made_new, made_held, no_memory_after, passed_apart}
use Rattle.bus_machine.proofs.Bases.NewSenders.{page_after, with_width}
use Rattle.bus_machine.proofs.Onward.StageRises.{log_behind}
use Rattle.bus_core.specs.declared.limits.TheConstants.{PASSED_APART}
use Rattle.bus_machine.specs.Machine.{New}
use Rattle.bus_world.specs.Starting.{AreNewReceivers}
use Rattle.bus_machine.specs.Playing.{RefusedWith}
use Rattle.bus_world.proofs.PlayingLaws.{passed_up}
use Rattle.std.specs.Option.{option_copied}
use Rattle.bus_tenure.specs.Elections.{election_with}
use Rattle.bus_machine.proofs.worlds.World.make.Goals as goal

pub log_word-first-requires-clause-width : goal.log_word-first-requires-clause-width
log_word-first-requires-clause-width g c =
    let P = g.Q.Ratifier.protocol in
    let X = election_with g.Q.Machine.kind_of g.Q.Machine.op g.Q.Machine.fed P in
    let served = c.in_default.ensures.served refl in
    let few = few_words c.args.shape.senders c.args.shape.rounds (P.width c.args.shape.senders)
    served.senders.1 served.rounds.1
    (g.met.Q.Ratifier.narrow c.args.shape.senders (let k = served.senders.1 in omega arith)) in
    let width_is = c.width-width.ensures.words in
    omega arith

pub invariant_of-result : goal.invariant_of-result
invariant_of-result g c =
    let P = g.Q.Ratifier.protocol in
    let X = election_with g.Q.Machine.kind_of g.Q.Machine.op g.Q.Machine.fed P in
    let served = c.in_default.ensures.served refl in
    let new = made_new P c.args.shape c.args.reuse c.args.passers c.width-width.result
    c.log_word-first.result c.width-width.ensures.protocol c.requires.apart c.requires.each
    c.log_word-first.ensures.at c.in_ok-bases.bases c.in_ok-bases.ensures.are
    c.in_ok-bases.ensures.low _ (ap Some c.in_ok-home.ensures) c.in_ok-cells.cells
    c.in_ok-cells.ensures c.in_ok-senders.senders.items c.in_ok-senders.ensures
    c.in_ok-receivers.receivers.items
    (subst (λ o. AreNewReceivers c.args.shape.senders
    (c.log_word-first.result + PASSED_APART * c.args.passers) c.args.shape.log_words o
    c.args.shape.receivers c.in_ok-receivers.receivers.items) c.first_passed-passed.ensures
    c.in_ok-receivers.ensures) _ refl _ (ap (map (λ s. s.0)) c.new-2.ensures) in
    made_held X P c.args.shape c.args.reuse c.args.passers c.requires.each served
    c.in_ok-bases.ensures.batch c.requires.rows _
    new refl refl c.in_ok-senders.ensures.many_are

pub returns-clause-made : goal.returns-clause-made
returns-clause-made g c =
    let P = g.Q.Ratifier.protocol in
    let X = election_with g.Q.Machine.kind_of g.Q.Machine.op g.Q.Machine.fed P in
    let served = c.in_default.ensures.served refl in
    let new = made_new P c.args.shape c.args.reuse c.args.passers c.width-width.result
    c.log_word-first.result c.width-width.ensures.protocol c.requires.apart c.requires.each
    c.log_word-first.ensures.at c.in_ok-bases.bases c.in_ok-bases.ensures.are
    c.in_ok-bases.ensures.low _ (ap Some c.in_ok-home.ensures) c.in_ok-cells.cells
    c.in_ok-cells.ensures c.in_ok-senders.senders.items c.in_ok-senders.ensures
    c.in_ok-receivers.receivers.items
    (subst (λ o. AreNewReceivers c.args.shape.senders
    (c.log_word-first.result + PASSED_APART * c.args.passers) c.args.shape.log_words o
    c.args.shape.receivers c.in_ok-receivers.receivers.items) c.first_passed-passed.ensures
    c.in_ok-receivers.ensures) _ refl _ (ap (map (λ s. s.0)) c.new-2.ensures) in
    record {
      served = served;
      batch = c.in_ok-bases.ensures.batch;
      layout = refl;
      rows = refl;
      bases_are = c.in_ok-bases.ensures.bases;
      new = new;
      senders = c.in_ok-senders.ensures.many_are;
      receivers = c.in_ok-receivers.ensures.many_are;
      begins = New _ new;
    }

pub returns-in_err-bases-clause-fault : goal.returns-in_err-bases-clause-fault
returns-in_err-bases-clause-fault g c =
    passed_up _ _
    (RefusedWith c.args.passers c.args.shape c.args.reuse (option_copied c.args.page))
    c.from_residual.ensures
    (page_after c.args.shape c.args.reuse c.args.passers (option_copied c.args.page) _
    (c.in_default.ensures.served refl) c.in_err-bases.ensures.fault)

pub returns-in_err-receivers-clause-fault : goal.returns-in_err-receivers-clause-fault
returns-in_err-receivers-clause-fault g c =
    passed_up _ _
    (RefusedWith c.args.passers c.args.shape c.args.reuse (option_copied c.args.page))
    c.from_residual-in_err-receivers.ensures
    (no_memory_after c.args.shape c.args.reuse c.args.passers (option_copied c.args.page)
    (c.in_default.ensures.served refl) c.in_ok-bases.ensures.batch c.in_ok-bases.ensures.follows)

pub new_receivers-requires-clause-apart : goal.new_receivers-requires-clause-apart
new_receivers-requires-clause-apart g c =
    passed_apart c.args.shape c.args.passers c.log_word-first.result c.first_passed-passed.result
    c.first_passed-passed.ensures c.requires.each
    (subst (λ n. 2 ≤ n) (sym c.log_word-first.ensures.at)
    (log_behind (with_width c.args.shape c.width-width.result) c.args.reuse))
