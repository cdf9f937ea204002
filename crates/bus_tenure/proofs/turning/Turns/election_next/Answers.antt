use Rattle.std.proofs.Common.{sym, ◌∙◌, ap}
use Rattle.bus_tenure.specs.Elections.{election_with}
use Rattle.bus_tenure.proofs.Inverted.{unowned}
use Rattle.bus_tenure.proofs.Rows.{place_lies}
use Rattle.bus_tenure.proofs.turning.Turns.election_next.Goals as goal

pub returns-clause-above : goal.returns-clause-above
returns-clause-above g c =
    let X =
    election_with g.Q.Machine.kind_of g.Q.Machine.op g.Q.Machine.fed g.Q.Ratifier.protocol in
    let u = unowned X c.args.self.now c.in-Electing.tenure c.args.tenure c.in-Electing.election
    (sym (ap (λ z. z.phase) c.self.view_is) ∙ c.in-Electing.is) c.requires in
    (place_lies g.Q.Machine.op g.Q.Machine.fed g.Q.Ratifier.protocol g.met.Q.Ratifier.laws
    g.met.Q.Ratifier.wordless c.self.inside.sizes.rounds c.self.inside.sizes.senders
    c.self.inside.me.0 _ _ c.self.view_is c.self.invariant c.in-Electing.tenure c.args.tenure
    c.in-Electing.election u.1 c.in-Electing.is c.args.word _ c.next.ensures).0

pub returns-clause-below : goal.returns-clause-below
returns-clause-below g c =
    let X =
    election_with g.Q.Machine.kind_of g.Q.Machine.op g.Q.Machine.fed g.Q.Ratifier.protocol in
    let u = unowned X c.args.self.now c.in-Electing.tenure c.args.tenure c.in-Electing.election
    (sym (ap (λ z. z.phase) c.self.view_is) ∙ c.in-Electing.is) c.requires in
    (place_lies g.Q.Machine.op g.Q.Machine.fed g.Q.Ratifier.protocol g.met.Q.Ratifier.laws
    g.met.Q.Ratifier.wordless c.self.inside.sizes.rounds c.self.inside.sizes.senders
    c.self.inside.me.0 _ _ c.self.view_is c.self.invariant c.in-Electing.tenure c.args.tenure
    c.in-Electing.election u.1 c.in-Electing.is c.args.word _ c.next.ensures).1
