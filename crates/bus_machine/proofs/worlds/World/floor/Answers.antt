use Rattle.std.proofs.Common.{◌≡◌, sym, ◌∙◌, subst, arith}
use Rattle.bus_tenure.specs.Elections.{elections, election_with}
use Rattle.bus_machine.proofs.Bases.Served.{served}
use Rattle.bus_machine.proofs.Calls.Holding.{floor_is, passers_there, word_there}
use Rattle.bus_machine.proofs.Bases.NewSenders.{capacity_of, passers_of}
use Rattle.bus_machine.specs.Machine.{floor_of}
use Rattle.bus_machine.proofs.worlds.World.floor.Goals as goal

pub overflow_sub-log : goal.overflow_sub-log
overflow_sub-log g c =
    let P = g.Q.Ratifier.protocol in
    let X = election_with g.Q.Machine.kind_of g.Q.Machine.op g.Q.Machine.fed P in
    let shape = c.self.inside.shape in
    let R = elections P shape.rounds in
    let s = served g.Q.Machine.kind_of g.Q.Machine.op g.Q.Machine.fed P
    g.met.Q.Machine.names_each_step g.met.Q.Ratifier.own_kinds shape
    (c.election_is_lawful.ensures.lawful.laws shape.rounds) c.self.inside.reuse
    c.self.inside.passers in
    let capacity_is = sym (capacity_of P shape c.self.inside.reuse c.self.inside.passers) in
    let words = c.as_slice-words.result.now in
    let within = word_there X R _ s c.self.invariant words c.as_slice-words.ensures shape.log_words
    capacity_is in
    let fits = within.1 in omega arith

pub overflow_sub-log-2 : goal.overflow_sub-log-2
overflow_sub-log-2 g c =
    let P = g.Q.Ratifier.protocol in
    let X = election_with g.Q.Machine.kind_of g.Q.Machine.op g.Q.Machine.fed P in
    let shape = c.self.inside.shape in
    let R = elections P shape.rounds in
    let s = served g.Q.Machine.kind_of g.Q.Machine.op g.Q.Machine.fed P
    g.met.Q.Machine.names_each_step g.met.Q.Ratifier.own_kinds shape
    (c.election_is_lawful.ensures.lawful.laws shape.rounds) c.self.inside.reuse
    c.self.inside.passers in
    let capacity_is = sym (capacity_of P shape c.self.inside.reuse c.self.inside.passers) in
    let words = c.as_slice-words.result.now in
    let there = passers_there X R _ s c.self.invariant c.self.inside.passers
    (passers_of P shape c.self.inside.reuse c.self.inside.passers) c.if-self-eq0.false words
    c.as_slice-words.ensures shape.log_words capacity_is in
    let fits = there.0 in omega arith

pub least_passed-requires-clause-some : goal.least_passed-requires-clause-some
least_passed-requires-clause-some g c =
    let P = g.Q.Ratifier.protocol in
    let X = election_with g.Q.Machine.kind_of g.Q.Machine.op g.Q.Machine.fed P in
    let shape = c.self.inside.shape in
    let R = elections P shape.rounds in
    let s = served g.Q.Machine.kind_of g.Q.Machine.op g.Q.Machine.fed P
    g.met.Q.Machine.names_each_step g.met.Q.Ratifier.own_kinds shape
    (c.election_is_lawful.ensures.lawful.laws shape.rounds) c.self.inside.reuse
    c.self.inside.passers in
    let capacity_is = sym (capacity_of P shape c.self.inside.reuse c.self.inside.passers) in
    let words = c.as_slice-words.result.now in
    let within = word_there X R _ s c.self.invariant words c.as_slice-words.ensures shape.log_words
    capacity_is in
    let some = within.0 in omega arith

pub least_passed-requires-clause-within : goal.least_passed-requires-clause-within
least_passed-requires-clause-within g c =
    let P = g.Q.Ratifier.protocol in
    let X = election_with g.Q.Machine.kind_of g.Q.Machine.op g.Q.Machine.fed P in
    let shape = c.self.inside.shape in
    let R = elections P shape.rounds in
    let s = served g.Q.Machine.kind_of g.Q.Machine.op g.Q.Machine.fed P
    g.met.Q.Machine.names_each_step g.met.Q.Ratifier.own_kinds shape
    (c.election_is_lawful.ensures.lawful.laws shape.rounds) c.self.inside.reuse
    c.self.inside.passers in
    let capacity_is = sym (capacity_of P shape c.self.inside.reuse c.self.inside.passers) in
    let words = c.as_slice-words.result.now in
    let there = passers_there X R _ s c.self.invariant c.self.inside.passers
    (passers_of P shape c.self.inside.reuse c.self.inside.passers) c.if-self-eq0.false words
    c.as_slice-words.ensures shape.log_words capacity_is in
    let within = word_there X R _ s c.self.invariant words c.as_slice-words.ensures shape.log_words
    capacity_is in
    let low = there.0 in
    let fits = within.1 in omega arith

pub returns : goal.returns
returns g c =
    let P = g.Q.Ratifier.protocol in
    let X = election_with g.Q.Machine.kind_of g.Q.Machine.op g.Q.Machine.fed P in
    let shape = c.self.inside.shape in
    let R = elections P shape.rounds in
    let s = served g.Q.Machine.kind_of g.Q.Machine.op g.Q.Machine.fed P
    g.met.Q.Machine.names_each_step g.met.Q.Ratifier.own_kinds shape
    (c.election_is_lawful.ensures.lawful.laws shape.rounds) c.self.inside.reuse
    c.self.inside.passers in
    let capacity_is = sym (capacity_of P shape c.self.inside.reuse c.self.inside.passers) in
    let words = c.as_slice-words.result.now in
    subst (λ y. c.least_passed.result ≡ floor_of y) c.self.view_is
    (c.least_passed.ensures
    ∙ floor_is X R _ s c.self.invariant c.self.inside.passers
    (passers_of P shape c.self.inside.reuse c.self.inside.passers) c.if-self-eq0.false words
    c.as_slice-words.ensures shape.log_words capacity_is)
