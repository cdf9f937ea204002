use Rattle.std.proofs.Common.{sym, ap, subst, ◌∙◌}
use Rattle.std.specs.Prelude.{Ok}
use Rattle.bus_tenure.specs.Elections.{election_with}
use Rattle.bus_replay.specs.Answers.{fork_seats, fork_trails}
use Rattle.bus_replay.specs.Histories.{IsHistoryOf, kept_by_fork}
use Rattle.bus_replay.proofs.ForkLemmas.{fork_holds}
use Rattle.bus_replay.proofs.playing.fork_noted.Goals as goal

pub returns-then-did-clause-noted : goal.returns-then-did-clause-noted
returns-then-did-clause-noted g c n trails taken hold past silent =
    let X =
    election_with g.Q.Machine.kind_of g.Q.Machine.op g.Q.Machine.fed g.Q.Ratifier.protocol in
    let P = g.Q.Ratifier.protocol in
    let i = c.args.receiver in
    let j = c.args.number in
    let did = c.in_ok-did.did in
    let h = c.args.history.now in
    subst (λ kept. IsHistoryOf X P c.fork.new.self kept (fork_trails i j n did trails)
    (fork_seats j did taken))
    (ap (λ b. kept_by_fork i j b h) c.if-did.true ∙ sym c.note_fork.ensures)
    (fork_holds X P c.args.bus.now c.fork.new.self i j did h n trails taken
    c.in_ok-did.ensures.forked (λ is. c.fork.ensures.taken (c.in_ok-did.was ∙ ap Ok is)) hold past
    silent)
