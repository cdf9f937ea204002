use Rattle.std.proofs.Common.{◌∙◌, refl}
use Rattle.bus_replica.specs.Replicas.{Nothing}
use Rattle.bus_replica.proofs.GoingLaws.{goes_told, more_turn, end_turn, empty_turn}
use Rattle.bus_replica.proofs.hearers.Hearer.hear.Goals as goal

pub loop-init : goal.loop-init
loop-init g c = (refl, Nothing)

pub loop-preserved-in-Op : goal.loop-preserved-in-Op
loop-preserved-in-Op g c = (
  c.turn.ensures.bus ∙ c.loop.invariant.0,
  more_turn g.S.State.applies c.args.self.now.me c.loop.self c.turn.new.self c.turn.result
      c.loop.invariant.1 c.turn.ensures.takes (goes_told c.turn.result c.in-Op.is),
)

pub loop-preserved : goal.loop-preserved
loop-preserved g c = (
  c.turn.ensures.bus ∙ c.loop.invariant.0,
  more_turn g.S.State.applies c.args.self.now.me c.loop.self c.turn.new.self c.turn.result
      c.loop.invariant.1 c.turn.ensures.takes (goes_told c.turn.result c.in-Op.is),
)

pub returns-in-Empty-clause-out : goal.returns-in-Empty-clause-out
returns-in-Empty-clause-out g c =
    empty_turn g.S.State.applies c.args.self.now.me c.loop.self c.turn.new.self
    c.loop.invariant.1 c.in-Empty.ensures.takes

pub returns-in-End-clause-out : goal.returns-in-End-clause-out
returns-in-End-clause-out g c =
    end_turn g.S.State.applies c.args.self.now.me c.loop.self c.turn.new.self
    c.loop.invariant.1 c.in-End.ensures.takes
