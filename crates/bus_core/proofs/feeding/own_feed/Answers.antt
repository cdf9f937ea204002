use Rattle.std.proofs.Common.{◌∙◌, ap}
use Rattle.bus_tenure.specs.Elections.{election_with}
use Rattle.bus_tenure.specs.Situations.{situation_of}
use Rattle.bus_core.specs.Keeping.{sender}
use Rattle.bus_core.proofs.Stepped.{fed_elects, fed_word, fed_length}
use Rattle.bus_core.proofs.feeding.own_feed.Goals as goal

pub returns-in-Elects-clause-state : goal.returns-in-Elects-clause-state
returns-in-Elects-clause-state g c =
    let X =
    election_with g.Q.Machine.kind_of g.Q.Machine.op g.Q.Machine.fed g.Q.Ratifier.protocol in
    fed_elects X c.args.turns.now c.args.reuse.now c.args.got c.args.word
    (situation_of X c.args.turns.now) c.in-Elects.tenure (c.requires.doing ∙ c.in-Elects.is) _ _ _
    c.elect-turn.ensures.state c.elect-turn.ensures.answer c.elected.ensures.state

pub returns-in-Word-clause-state : goal.returns-in-Word-clause-state
returns-in-Word-clause-state g c =
    let X =
    election_with g.Q.Machine.kind_of g.Q.Machine.op g.Q.Machine.fed g.Q.Ratifier.protocol in
    ap (λ y. sender y c.args.reuse.now) (c.word_stored.ensures c.args.got c.args.word)
    ∙ fed_word X c.args.turns.now c.args.reuse.now c.args.got c.args.word
    (situation_of X c.args.turns.now) _ _ _ (c.requires.doing ∙ c.in-Word.is)

pub returns-in-Length-clause-state : goal.returns-in-Length-clause-state
returns-in-Length-clause-state g c =
    let X =
    election_with g.Q.Machine.kind_of g.Q.Machine.op g.Q.Machine.fed g.Q.Ratifier.protocol in
    ap (λ y. sender y c.args.reuse.now) (c.length_stored.ensures c.args.got c.args.word)
    ∙ fed_length X c.args.turns.now c.args.reuse.now c.args.got c.args.word
    (situation_of X c.args.turns.now) _ _ (c.requires.doing ∙ c.in-Length.is)
