use Rattle.std.proofs.Common.{inl, inr, sym, ◌∙◌, ap}
use Rattle.bus_tenure.specs.Elections.{election_with}
use Rattle.bus_tenure.specs.Situations.{situation_of}
use Rattle.bus_core.specs.Keeping.{sender}
use Rattle.bus_core.specs.Table.{line}
use Rattle.bus_core.proofs.Situated.{does_by, doing_by, reclaimed}
use Rattle.bus_core.proofs.feeding.feed_parts.Goals as goal

pub returns-in-Does-clause-state : goal.returns-in-Does-clause-state
returns-in-Does-clause-state g c =
    let X =
    election_with g.Q.Machine.kind_of g.Q.Machine.op g.Q.Machine.fed g.Q.Ratifier.protocol in
    let v = sender c.args.turns.now c.args.reuse.now in
    c.own_feed.ensures.state
    ∙ ap (λ z. (line X v z).fed c.args.got c.args.word)
    (sym (does_by v.core.layout.passers v.reuse (situation_of X v.core) c.in-Does.doing
    (c.requires.step ∙ c.in-Does.is)))

pub returns-in-Does-clause-answer : goal.returns-in-Does-clause-answer
returns-in-Does-clause-answer g c =
    let X =
    election_with g.Q.Machine.kind_of g.Q.Machine.op g.Q.Machine.fed g.Q.Ratifier.protocol in
    let v = sender c.args.turns.now c.args.reuse.now in
    c.own_feed.ensures.answer
    ∙ ap (λ z. (line X v z).answer c.args.got c.args.word)
    (sym (does_by v.core.layout.passers v.reuse (situation_of X v.core) c.in-Does.doing
    (c.requires.step ∙ c.in-Does.is)))

pub own_feed-requires-clause-doing : goal.own_feed-requires-clause-doing
own_feed-requires-clause-doing g c =
    let X =
    election_with g.Q.Machine.kind_of g.Q.Machine.op g.Q.Machine.fed g.Q.Ratifier.protocol in
    let v = sender c.args.turns.now c.args.reuse.now in
    doing_by v.core.layout.passers v.reuse (situation_of X v.core) c.in-Does.doing
    (c.requires.step ∙ c.in-Does.is)

pub returns-in-Scans-clause-state : goal.returns-in-Scans-clause-state
returns-in-Scans-clause-state g c =
    let X =
    election_with g.Q.Machine.kind_of g.Q.Machine.op g.Q.Machine.fed g.Q.Ratifier.protocol in
    let v = sender c.args.turns.now c.args.reuse.now in
    let w = reclaimed X v c.args.got c.args.word (elim c.in-Scans.is [
      | inl i ↦ inl (c.requires.step ∙ i)
      | inr i ↦ inr (c.requires.step ∙ i)
    ]) in
    ap (sender c.args.turns.now) (c.reclaim_on.ensures.state w.reclaimer w.is) ∙ sym w.leaves

pub returns-in-Scans-clause-answer : goal.returns-in-Scans-clause-answer
returns-in-Scans-clause-answer g c =
    let X =
    election_with g.Q.Machine.kind_of g.Q.Machine.op g.Q.Machine.fed g.Q.Ratifier.protocol in
    let v = sender c.args.turns.now c.args.reuse.now in
    let w = reclaimed X v c.args.got c.args.word (elim c.in-Scans.is [
      | inl i ↦ inl (c.requires.step ∙ i)
      | inr i ↦ inr (c.requires.step ∙ i)
    ]) in
    c.reclaim_on.ensures.answer w.reclaimer w.is ∙ sym w.answers
