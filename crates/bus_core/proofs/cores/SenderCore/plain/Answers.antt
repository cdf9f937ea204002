use Rattle.std.proofs.Common.{sym, ◌∙◌, subst}
use Rattle.std.proofs.lemmas.Bool.{true≢false}
use Rattle.bus_tenure.specs.Elections.{Elector, election_with}
use Rattle.bus_core.specs.Keeping.{IsAway}
use Rattle.bus_core.specs.Plain.{StoresPlain}
use Rattle.bus_core.specs.Senders.{Sender}
use Rattle.bus_core.proofs.Plain.{clears_by, clear_stores}
use Rattle.bus_core.proofs.cores.SenderCore.plain.Goals as goal

pub returns-then-not-is_away-clause-exact : goal.returns-then-not-is_away-clause-exact
returns-then-not-is_away-clause-exact g c plain = absurd
    (true≢false (sym (c.is_away.ensures.1 (c.plain_is_away.ensures plain)) ∙ c.if-not-is_away.true))

pub returns-then-has_published-clause-stores : goal.returns-then-has_published-clause-stores
returns-then-has_published-clause-stores g c is =
    let X =
    election_with g.Q.Machine.kind_of g.Q.Machine.op g.Q.Machine.fed g.Q.Ratifier.protocol in
    let i = c.self.inside in
    let v : Sender (Elector g.row.Q.Denot) = record { core = i.turns; reuse = i.reuse } in
    let s = c.clears.ensures.clears is in
    let published = c.has_published.ensures.0 c.if-has_published.true in
    let away = subst (λ (y : Sender (Elector g.row.Q.Denot)). IsAway y.reuse) (sym c.self.view_is)
    (c.is_away.ensures.0 c.if-not-is_away.false) in
    subst (StoresPlain X c.args.self.now c.clears.new.at) (sym s.4)
    (subst (λ y. StoresPlain X y c.clears.new.at 0) c.self.view_is
    (clear_stores X v _ _ c.self.invariant s.0 (clears_by X v away published s.0 s.1 s.2) s.1 s.2
    published _ s.3))
