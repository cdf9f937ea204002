use Rattle.std.proofs.Common.{refl, sym, subst, ◌∙◌}
use Rattle.std.specs.Prelude.{IfOk}
use Rattle.bus_tenure.specs.Elections.{election_with}
use Rattle.bus_replay.specs.Answers.{IsOpened}
use Rattle.bus_replay.specs.declared.lines.FirstLine.TheVariants as first
use Rattle.bus_replay.proofs.OpeningLemmas.{opened_whole}
use Rattle.bus_replay.proofs.RepeatLemmas.{when_ok}
use Rattle.bus_replay.proofs.answers.new_bus.Goals as goal
use Rattle.bus_replay.proofs.answers.new_bus.Goals.{in-Shape, in-Cycle}

pub returns-in-Ring-clause-made : goal.returns-in-Ring-clause-made
returns-in-Ring-clause-made g c =
    let X =
    election_with g.Q.Machine.kind_of g.Q.Machine.op g.Q.Machine.fed g.Q.Ratifier.protocol in
    subst (λ first. IfOk c.new_ring.result (IsOpened X g.Q.Ratifier.protocol first))
    (sym c.in-Ring.is) c.new_ring.ensures.made

pub returns-in-Ok-clause-made : goal.returns-in-Ok-clause-made
returns-in-Ok-clause-made g c =
    let X =
    election_with g.Q.Machine.kind_of g.Q.Machine.op g.Q.Machine.fed g.Q.Ratifier.protocol in
    let P = g.Q.Ratifier.protocol in
    let bus = c.in-Ok.bus in
    elim c.match-first.branch [
      | in-Shape w ↦
          let made = when_ok _ w.new-made.result bus (sym w.made-is ∙ c.in-Ok.is)
          w.new-made.ensures.made in
          subst (λ first. IsOpened X P first bus) (sym w.in-Shape.is)
          (opened_whole X P (first.Shape w.in-Shape.shape) bus refl made.served made)
      | in-Cycle w ↦
          let made = when_ok _ w.cyclic-made.result bus (sym w.made-is ∙ c.in-Ok.is)
          w.cyclic-made.ensures.made in
          subst (λ first. IsOpened X P first bus) (sym w.in-Cycle.is)
          (opened_whole X P (first.Cycle w.in-Cycle.shape) bus refl made.served made)
    ]
