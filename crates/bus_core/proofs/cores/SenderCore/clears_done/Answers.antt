use Rattle.std.proofs.Common.{◌≤◌, sym, ◌∙◌, ap, subst}
use Rattle.bus_tenure.specs.Elections.{Elector, election_with, elections}
use Rattle.bus_core.specs.Plain.{IsPlain, stored_on, clears_from}
use Rattle.bus_core.specs.Senders.{Sender, situation}
use Rattle.bus_core.proofs.Kept.{Keeps}
use Rattle.bus_core.proofs.Reusing.Laws.{elections_keep}
use Rattle.bus_core.proofs.Rows.{cleared_few, cleared_is, cleared_keeps}
use Rattle.bus_core.proofs.cores.SenderCore.clears_done.Goals as goal

pub clear_many-requires : goal.clear_many-requires
clear_many-requires g c =
    let P = g.Q.Ratifier.protocol in
    let X = election_with g.Q.Machine.kind_of g.Q.Machine.op g.Q.Machine.fed P in
    let law = elections_keep g.Q.Machine.kind_of g.Q.Machine.op g.Q.Machine.fed P
    g.met.Q.Ratifier.laws g.met.Q.Ratifier.wordless in
    let i = c.self.inside in
    let v : Sender (Elector g.row.Q.Denot) = record { core = i.turns; reuse = i.reuse } in
    cleared_few X (λ x. (elections P x.rounds).width x.senders)
    (λ x me. (elections P x.rounds).Belongs x.senders me) law v c.self.invariant c.args.many
    c.requires.some
    (subst (λ y. c.args.many ≤ clears_from (situation X y)) (sym c.self.view_is) c.requires.left)
    (subst (IsPlain X) (sym c.self.view_is) c.requires.plain)

pub invariant_of-self : goal.invariant_of-self
invariant_of-self g c =
    let P = g.Q.Ratifier.protocol in
    let X = election_with g.Q.Machine.kind_of g.Q.Machine.op g.Q.Machine.fed P in
    let law = elections_keep g.Q.Machine.kind_of g.Q.Machine.op g.Q.Machine.fed P
    g.met.Q.Ratifier.laws g.met.Q.Ratifier.wordless in
    let i = c.self.inside in
    let v : Sender (Elector g.row.Q.Denot) = record { core = i.turns; reuse = i.reuse } in
    let left = subst (λ y. c.args.many ≤ clears_from (situation X y)) (sym c.self.view_is)
    c.requires.left in
    let plain = subst (IsPlain X) (sym c.self.view_is) c.requires.plain in
    subst (Keeps X (λ x. (elections P x.rounds).width x.senders)
    (λ x me. (elections P x.rounds).Belongs x.senders me) law)
    (sym (cleared_is X (λ x. (elections P x.rounds).width x.senders)
    (λ x me. (elections P x.rounds).Belongs x.senders me) law v c.self.invariant c.args.many
    c.requires.some left plain c.clear_many.new.reuse c.clear_many.ensures))
    (cleared_keeps X (λ x. (elections P x.rounds).width x.senders)
    (λ x me. (elections P x.rounds).Belongs x.senders me) law v c.self.invariant c.args.many
    c.requires.some left plain)

pub returns : goal.returns
returns g c =
    let P = g.Q.Ratifier.protocol in
    let X = election_with g.Q.Machine.kind_of g.Q.Machine.op g.Q.Machine.fed P in
    let law = elections_keep g.Q.Machine.kind_of g.Q.Machine.op g.Q.Machine.fed P
    g.met.Q.Ratifier.laws g.met.Q.Ratifier.wordless in
    let i = c.self.inside in
    let v : Sender (Elector g.row.Q.Denot) = record { core = i.turns; reuse = i.reuse } in
    cleared_is X (λ x. (elections P x.rounds).width x.senders)
    (λ x me. (elections P x.rounds).Belongs x.senders me) law v c.self.invariant c.args.many
    c.requires.some
    (subst (λ y. c.args.many ≤ clears_from (situation X y)) (sym c.self.view_is) c.requires.left)
    (subst (IsPlain X) (sym c.self.view_is) c.requires.plain) c.clear_many.new.reuse
    c.clear_many.ensures
    ∙ ap (λ y. stored_on X y c.args.many) c.self.view_is
