use Rattle.std.proofs.Common.{◌≤◌, ◌∙◌, sym, subst, arith}
use Rattle.std.proofs.lemmas.List.{length-map}
use Rattle.bus_tenure.specs.Elections.{elections, election_with}
use Rattle.bus_machine.proofs.Bases.Served.{served}
use Rattle.bus_world.proofs.PlayingLaws.{there, passed_up, numbers_many}
use Rattle.bus_world.specs.World.{Turn}
use Rattle.bus_machine.proofs.Calls.Events.{senders_many, goes, turn_happens, turn_sits}
use Rattle.bus_machine.proofs.Calls.Events.{turn_unknown}
use Rattle.bus_machine.proofs.Calls.Events.{turn_says, turn_causes}
use Rattle.bus_machine.proofs.Calls.Holding.{room, sums, laid, owner_fits, owners_few, rows_within}
use Rattle.bus_machine.specs.Playing.{Refuses}
use Rattle.bus_machine.proofs.worlds.World.turn_at.Goals as goal

pub turn_sender-turn-requires-clause-room : goal.turn_sender-turn-requires-clause-room
turn_sender-turn-requires-clause-room g c =
    let P = g.Q.Ratifier.protocol in
    let X = election_with g.Q.Machine.kind_of g.Q.Machine.op g.Q.Machine.fed P in
    let shape = c.self.inside.shape in
    let R = elections P shape.rounds in
    let s = served g.Q.Machine.kind_of g.Q.Machine.op g.Q.Machine.fed P
    g.met.Q.Machine.names_each_step g.met.Q.Ratifier.own_kinds shape
    (c.election_is_lawful.ensures.lawful.laws shape.rounds) c.self.inside.reuse
    c.self.inside.passers in
    let many = senders_many X _ c.self.invariant c.args.self.now c.self.view_is c.args.sender
    c.in_ok-goes_on.ensures.there in
    let at = there c.self.inside.senders.items c.args.sender c.index_mut-core.result.now many
    c.index_mut-core.ensures.value in
    room X R _ s c.self.invariant c.args.sender c.index_mut-core.result.now at

pub turn_sender-turn-requires-clause-sums : goal.turn_sender-turn-requires-clause-sums
turn_sender-turn-requires-clause-sums g c =
    let P = g.Q.Ratifier.protocol in
    let X = election_with g.Q.Machine.kind_of g.Q.Machine.op g.Q.Machine.fed P in
    let shape = c.self.inside.shape in
    let R = elections P shape.rounds in
    let s = served g.Q.Machine.kind_of g.Q.Machine.op g.Q.Machine.fed P
    g.met.Q.Machine.names_each_step g.met.Q.Ratifier.own_kinds shape
    (c.election_is_lawful.ensures.lawful.laws shape.rounds) c.self.inside.reuse
    c.self.inside.passers in
    let many = senders_many X _ c.self.invariant c.args.self.now c.self.view_is c.args.sender
    c.in_ok-goes_on.ensures.there in
    let at = there c.self.inside.senders.items c.args.sender c.index_mut-core.result.now many
    c.index_mut-core.ensures.value in
    sums X R _ s c.self.invariant c.args.sender c.index_mut-core.result.now at c.args.word

pub turn_sender-turn-requires-clause-laid : goal.turn_sender-turn-requires-clause-laid
turn_sender-turn-requires-clause-laid g c =
    let P = g.Q.Ratifier.protocol in
    let X = election_with g.Q.Machine.kind_of g.Q.Machine.op g.Q.Machine.fed P in
    let shape = c.self.inside.shape in
    let R = elections P shape.rounds in
    let s = served g.Q.Machine.kind_of g.Q.Machine.op g.Q.Machine.fed P
    g.met.Q.Machine.names_each_step g.met.Q.Ratifier.own_kinds shape
    (c.election_is_lawful.ensures.lawful.laws shape.rounds) c.self.inside.reuse
    c.self.inside.passers in
    let many = senders_many X _ c.self.invariant c.args.self.now c.self.view_is c.args.sender
    c.in_ok-goes_on.ensures.there in
    let at = there c.self.inside.senders.items c.args.sender c.index_mut-core.result.now many
    c.index_mut-core.ensures.value in
    laid X R _ s c.self.invariant c.args.sender c.index_mut-core.result.now at

pub note_owner-requires-clause-some : goal.note_owner-requires-clause-some
note_owner-requires-clause-some g c rows same =
    let P = g.Q.Ratifier.protocol in
    let X = election_with g.Q.Machine.kind_of g.Q.Machine.op g.Q.Machine.fed P in
    let shape = c.self.inside.shape in
    let R = elections P shape.rounds in
    let s = served g.Q.Machine.kind_of g.Q.Machine.op g.Q.Machine.fed P
    g.met.Q.Machine.names_each_step g.met.Q.Ratifier.own_kinds shape
    (c.election_is_lawful.ensures.lawful.laws shape.rounds) c.self.inside.reuse
    c.self.inside.passers in
    let few = (rows_within X R _ s c.self.invariant rows same).0 in omega arith

pub note_owner-requires-clause-few : goal.note_owner-requires-clause-few
note_owner-requires-clause-few g c rows same =
    let P = g.Q.Ratifier.protocol in
    let X = election_with g.Q.Machine.kind_of g.Q.Machine.op g.Q.Machine.fed P in
    let shape = c.self.inside.shape in
    let R = elections P shape.rounds in
    let s = served g.Q.Machine.kind_of g.Q.Machine.op g.Q.Machine.fed P
    g.met.Q.Machine.names_each_step g.met.Q.Ratifier.own_kinds shape
    (c.election_is_lawful.ensures.lawful.laws shape.rounds) c.self.inside.reuse
    c.self.inside.passers in
    let few = (rows_within X R _ s c.self.invariant rows same).1 in omega arith

pub note_owner-requires-clause-most : goal.note_owner-requires-clause-most
note_owner-requires-clause-most g c rows same =
    let P = g.Q.Ratifier.protocol in
    let X = election_with g.Q.Machine.kind_of g.Q.Machine.op g.Q.Machine.fed P in
    let shape = c.self.inside.shape in
    let R = elections P shape.rounds in
    let s = served g.Q.Machine.kind_of g.Q.Machine.op g.Q.Machine.fed P
    g.met.Q.Machine.names_each_step g.met.Q.Ratifier.own_kinds shape
    (c.election_is_lawful.ensures.lawful.laws shape.rounds) c.self.inside.reuse
    c.self.inside.passers in
    subst (λ n. n ≤ rows) (length-map c.self.inside.owners.items (λ s. s.0))
    (owners_few X R _ s c.self.invariant rows same)

pub note_owner-requires-clause-room : goal.note_owner-requires-clause-room
note_owner-requires-clause-room g c t told =
    let P = g.Q.Ratifier.protocol in
    let X = election_with g.Q.Machine.kind_of g.Q.Machine.op g.Q.Machine.fed P in
    let shape = c.self.inside.shape in
    let R = elections P shape.rounds in
    let s = served g.Q.Machine.kind_of g.Q.Machine.op g.Q.Machine.fed P
    g.met.Q.Machine.names_each_step g.met.Q.Ratifier.own_kinds shape
    (c.election_is_lawful.ensures.lawful.laws shape.rounds) c.self.inside.reuse
    c.self.inside.passers in
    let many = senders_many X _ c.self.invariant c.args.self.now c.self.view_is c.args.sender
    c.in_ok-goes_on.ensures.there in
    let at = there c.self.inside.senders.items c.args.sender c.index_mut-core.result.now many
    c.index_mut-core.ensures.value in
    numbers_many c.self.inside.owners.items (owner_fits X R _ s c.self.invariant c.args.sender
    c.index_mut-core.result.now (goes X _ c.self.invariant c.args.self.now c.self.view_is
    c.args.sender c.index_mut-core.result.now at c.in_ok-goes_on.ensures.goes) c.args.word t
    (sym c.turn_sender-turn.ensures.turned.answer_is ∙ told))

pub invariant_of-self : goal.invariant_of-self
invariant_of-self g c =
    let P = g.Q.Ratifier.protocol in
    let X = election_with g.Q.Machine.kind_of g.Q.Machine.op g.Q.Machine.fed P in
    let shape = c.self.inside.shape in
    let R = elections P shape.rounds in
    let s = served g.Q.Machine.kind_of g.Q.Machine.op g.Q.Machine.fed P
    g.met.Q.Machine.names_each_step g.met.Q.Ratifier.own_kinds shape
    (c.election_is_lawful.ensures.lawful.laws shape.rounds) c.self.inside.reuse
    c.self.inside.passers in
    let many = senders_many X _ c.self.invariant c.args.self.now c.self.view_is c.args.sender
    c.in_ok-goes_on.ensures.there in
    let at = there c.self.inside.senders.items c.args.sender c.index_mut-core.result.now many
    c.index_mut-core.ensures.value in
    turn_sits X _ c.self.invariant c.args.self.now c.self.view_is c.args.sender
    c.index_mut-core.result.now at c.in_ok-goes_on.ensures.goes c.args.word
    c.turn_sender-turn.new.cells c.turn_sender-turn.new.home c.turn_sender-turn.new.core _
    c.turn_sender-turn.result c.turn_sender-turn.ensures.turned c.note_owner.ensures

pub returns-clause-happens : goal.returns-clause-happens
returns-clause-happens g c =
    let P = g.Q.Ratifier.protocol in
    let X = election_with g.Q.Machine.kind_of g.Q.Machine.op g.Q.Machine.fed P in
    let shape = c.self.inside.shape in
    let R = elections P shape.rounds in
    let s = served g.Q.Machine.kind_of g.Q.Machine.op g.Q.Machine.fed P
    g.met.Q.Machine.names_each_step g.met.Q.Ratifier.own_kinds shape
    (c.election_is_lawful.ensures.lawful.laws shape.rounds) c.self.inside.reuse
    c.self.inside.passers in
    let many = senders_many X _ c.self.invariant c.args.self.now c.self.view_is c.args.sender
    c.in_ok-goes_on.ensures.there in
    let at = there c.self.inside.senders.items c.args.sender c.index_mut-core.result.now many
    c.index_mut-core.ensures.value in
    turn_happens X _ c.self.invariant c.args.self.now c.self.view_is c.args.sender
    c.index_mut-core.result.now at c.in_ok-goes_on.ensures.goes c.args.word
    c.turn_sender-turn.new.cells c.turn_sender-turn.new.home c.turn_sender-turn.new.core _
    c.turn_sender-turn.result c.turn_sender-turn.ensures.turned c.note_owner.ensures

pub returns-clause-says : goal.returns-clause-says
returns-clause-says g c =
    let P = g.Q.Ratifier.protocol in
    let X = election_with g.Q.Machine.kind_of g.Q.Machine.op g.Q.Machine.fed P in
    let shape = c.self.inside.shape in
    let R = elections P shape.rounds in
    let s = served g.Q.Machine.kind_of g.Q.Machine.op g.Q.Machine.fed P
    g.met.Q.Machine.names_each_step g.met.Q.Ratifier.own_kinds shape
    (c.election_is_lawful.ensures.lawful.laws shape.rounds) c.self.inside.reuse
    c.self.inside.passers in
    let many = senders_many X _ c.self.invariant c.args.self.now c.self.view_is c.args.sender
    c.in_ok-goes_on.ensures.there in
    let at = there c.self.inside.senders.items c.args.sender c.index_mut-core.result.now many
    c.index_mut-core.ensures.value in
    turn_says X _ c.self.invariant c.args.self.now c.self.view_is c.args.sender
    c.index_mut-core.result.now at c.in_ok-goes_on.ensures.goes c.args.word
    c.turn_sender-turn.new.cells c.turn_sender-turn.new.home c.turn_sender-turn.new.core _
    c.turn_sender-turn.result c.turn_sender-turn.ensures.turned c.note_owner.ensures
    c.turn_sender-turn.ensures.tells

pub returns-clause-causes : goal.returns-clause-causes
returns-clause-causes g c =
    let P = g.Q.Ratifier.protocol in
    let X = election_with g.Q.Machine.kind_of g.Q.Machine.op g.Q.Machine.fed P in
    let shape = c.self.inside.shape in
    let R = elections P shape.rounds in
    let s = served g.Q.Machine.kind_of g.Q.Machine.op g.Q.Machine.fed P
    g.met.Q.Machine.names_each_step g.met.Q.Ratifier.own_kinds shape
    (c.election_is_lawful.ensures.lawful.laws shape.rounds) c.self.inside.reuse
    c.self.inside.passers in
    let many = senders_many X _ c.self.invariant c.args.self.now c.self.view_is c.args.sender
    c.in_ok-goes_on.ensures.there in
    let at = there c.self.inside.senders.items c.args.sender c.index_mut-core.result.now many
    c.index_mut-core.ensures.value in
    turn_causes X P _ c.self.invariant c.args.self.now c.self.view_is c.args.sender
    c.index_mut-core.result.now at c.in_ok-goes_on.ensures.goes c.args.word c.has_causes.ensures

pub returns-in_err-goes_on-clause-refused : goal.returns-in_err-goes_on-clause-refused
returns-in_err-goes_on-clause-refused g c =
    passed_up _ _
    (λ why. Refuses c.args.self.now (Turn c.args.sender c.args.word) why c.args.self.now)
    c.from_residual.ensures
    (turn_unknown c.args.self.now c.args.sender _ c.in_err-goes_on.ensures.fault c.args.word)
