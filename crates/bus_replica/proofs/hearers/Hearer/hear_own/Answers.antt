use Rattle.std.proofs.Common.{◌∙◌, refl}
use Rattle.bus_replica.specs.Replicas.{Here}
use Rattle.bus_replica.proofs.GoingLaws.{goes_by, turn_ends}
use Rattle.bus_replica.proofs.hearers.Hearer.hear_own.Goals as goal

pub loop-init : goal.loop-init
loop-init g c = (refl, Here)

pub loop-preserved-in-Op : goal.loop-preserved-in-Op
loop-preserved-in-Op g c = (
  c.turn.ensures.bus ∙ c.loop.invariant.0,
  goes_by g.S.State.applies c.args.self.now.me c.loop.self c.turn.new.self c.turn.result
      c.loop.invariant.1 c.turn.ensures.takes,
)

pub loop-preserved : goal.loop-preserved
loop-preserved g c = (
  c.turn.ensures.bus ∙ c.loop.invariant.0,
  goes_by g.S.State.applies c.args.self.now.me c.loop.self c.turn.new.self c.turn.result
      c.loop.invariant.1 c.turn.ensures.takes,
)

pub returns-then-told-number-clause-on : goal.returns-then-told-number-clause-on
returns-then-told-number-clause-on g c =
    goes_by g.S.State.applies c.args.self.now.me c.loop.self c.turn.new.self c.turn.result
    c.loop.invariant.1 c.turn.ensures.takes

pub returns-in-Empty-clause-on : goal.returns-in-Empty-clause-on
returns-in-Empty-clause-on g c =
    goes_by g.S.State.applies c.args.self.now.me c.loop.self c.turn.new.self c.turn.result
    c.loop.invariant.1 c.turn.ensures.takes

pub returns-in-End-clause-on : goal.returns-in-End-clause-on
returns-in-End-clause-on g c =
    goes_by g.S.State.applies c.args.self.now.me c.loop.self c.turn.new.self c.turn.result
    c.loop.invariant.1 c.turn.ensures.takes

pub returns-in-End-clause-ended : goal.returns-in-End-clause-ended
returns-in-End-clause-ended g c = (
  refl,
  turn_ends g.S.State.applies c.args.self.now.me c.loop.self c.turn.new.self c.loop.invariant.1
      c.in-End.ensures.takes,
)
