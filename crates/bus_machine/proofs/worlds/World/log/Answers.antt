use Rattle.std.proofs.Common.{sym, ◌∙◌, arith}
use Rattle.bus_tenure.specs.Elections.{elections, election_with}
use Rattle.bus_machine.proofs.Bases.Served.{served}
use Rattle.bus_machine.proofs.Calls.Events.{ok_more}
use Rattle.bus_machine.proofs.Calls.Holding.{floor_within, log_shown, word_there}
use Rattle.bus_machine.proofs.Bases.NewSenders.{capacity_of}
use Rattle.bus_machine.proofs.worlds.World.log.Goals as goal

pub overflow_sub-log : goal.overflow_sub-log
overflow_sub-log g c =
    let P = g.Q.Ratifier.protocol in
    let X = election_with g.Q.Machine.kind_of g.Q.Machine.op g.Q.Machine.fed P in
    let shape = c.self.inside.shape in
    let R = elections P shape.rounds in
    let s = served g.Q.Machine.kind_of g.Q.Machine.op g.Q.Machine.fed P
    g.met.Q.Machine.names_each_step g.met.Q.Ratifier.own_kinds shape
    (c.election_is_lawful.ensures.lawful.laws shape.rounds) c.self.inside.reuse
    c.self.inside.passers in
    let capacity_is = sym (capacity_of P shape c.self.inside.reuse c.self.inside.passers) in
    let words = c.as_slice-words.result.now in
    let within = word_there X R _ s c.self.invariant words c.as_slice-words.ensures shape.log_words
    capacity_is in
    let fits = within.1 in omega arith

pub bounds-words-0 : goal.bounds-words-0
bounds-words-0 g c =
    let P = g.Q.Ratifier.protocol in
    let X = election_with g.Q.Machine.kind_of g.Q.Machine.op g.Q.Machine.fed P in
    let shape = c.self.inside.shape in
    let R = elections P shape.rounds in
    let s = served g.Q.Machine.kind_of g.Q.Machine.op g.Q.Machine.fed P
    g.met.Q.Machine.names_each_step g.met.Q.Ratifier.own_kinds shape
    (c.election_is_lawful.ensures.lawful.laws shape.rounds) c.self.inside.reuse
    c.self.inside.passers in
    let capacity_is = sym (capacity_of P shape c.self.inside.reuse c.self.inside.passers) in
    let words = c.as_slice-words.result.now in
    let within = word_there X R _ s c.self.invariant words c.as_slice-words.ensures shape.log_words
    capacity_is in
    let some = within.0 in omega arith

pub copy_ring-requires-clause-within : goal.copy_ring-requires-clause-within
copy_ring-requires-clause-within g c =
    let P = g.Q.Ratifier.protocol in
    let X = election_with g.Q.Machine.kind_of g.Q.Machine.op g.Q.Machine.fed P in
    let shape = c.self.inside.shape in
    let R = elections P shape.rounds in
    let s = served g.Q.Machine.kind_of g.Q.Machine.op g.Q.Machine.fed P
    g.met.Q.Machine.names_each_step g.met.Q.Ratifier.own_kinds shape
    (c.election_is_lawful.ensures.lawful.laws shape.rounds) c.self.inside.reuse
    c.self.inside.passers in
    let capacity_is = sym (capacity_of P shape c.self.inside.reuse c.self.inside.passers) in
    let words = c.as_slice-words.result.now in
    let within = word_there X R _ s c.self.invariant words c.as_slice-words.ensures shape.log_words
    capacity_is in
    let fits = within.1 in omega arith

pub copy_ring-requires-clause-rising : goal.copy_ring-requires-clause-rising
copy_ring-requires-clause-rising g c =
    let P = g.Q.Ratifier.protocol in
    let X = election_with g.Q.Machine.kind_of g.Q.Machine.op g.Q.Machine.fed P in
    let shape = c.self.inside.shape in
    let R = elections P shape.rounds in
    let s = served g.Q.Machine.kind_of g.Q.Machine.op g.Q.Machine.fed P
    g.met.Q.Machine.names_each_step g.met.Q.Ratifier.own_kinds shape
    (c.election_is_lawful.ensures.lawful.laws shape.rounds) c.self.inside.reuse
    c.self.inside.passers in
    let capacity_is = sym (capacity_of P shape c.self.inside.reuse c.self.inside.passers) in
    let words = c.as_slice-words.result.now in
    floor_within X R _ s c.self.invariant words c.as_slice-words.ensures c.args.self.now
    c.self.view_is c.floor.result c.floor.ensures

pub returns : goal.returns
returns g c =
    let P = g.Q.Ratifier.protocol in
    let X = election_with g.Q.Machine.kind_of g.Q.Machine.op g.Q.Machine.fed P in
    let shape = c.self.inside.shape in
    let R = elections P shape.rounds in
    let s = served g.Q.Machine.kind_of g.Q.Machine.op g.Q.Machine.fed P
    g.met.Q.Machine.names_each_step g.met.Q.Ratifier.own_kinds shape
    (c.election_is_lawful.ensures.lawful.laws shape.rounds) c.self.inside.reuse
    c.self.inside.passers in
    let capacity_is = sym (capacity_of P shape c.self.inside.reuse c.self.inside.passers) in
    let words = c.as_slice-words.result.now in
    ok_more c.copy_ring.result _ _ c.copy_ring.ensures
    (λ log copied. copied
    ∙ log_shown X R _ s c.self.invariant words c.as_slice-words.ensures shape.log_words capacity_is
    c.args.self.now c.self.view_is c.floor.result c.floor.ensures)
