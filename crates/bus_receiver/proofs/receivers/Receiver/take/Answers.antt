use Rattle.std.proofs.Common.{refl, sym, ◌∙◌}
use Rattle.bus_receiver.specs.Listening.{Here, More}
use Rattle.bus_receiver.proofs.receivers.Receiver.take.Goals as goal

pub loop-init : goal.loop-init
loop-init g c = (Here, refl)

pub returns-then-finds-clause-takes : goal.returns-then-finds-clause-takes
returns-then-finds-clause-takes g c = record {
  old = c.loop.self.me;
  before = c.loop.invariant.0;
  hears = c.turn-turn.ensures.hears;
  found = sym c.finds.ensures ∙ c.if-finds.true;
}

pub loop-preserved-then-eq : goal.loop-preserved-then-eq
loop-preserved-then-eq g c = (
  More c.loop.self.me c.turn-turn.result c.turn-turn.new.self.me c.loop.invariant.0
      c.turn-turn.ensures.hears (sym c.finds.ensures ∙ c.if-finds.false),
  c.turn-turn.ensures.table ∙ c.loop.invariant.1,
)

pub loop-preserved : goal.loop-preserved
loop-preserved g c = (
  More c.loop.self.me c.turn-turn.result c.turn-turn.new.self.me c.loop.invariant.0
      c.turn-turn.ensures.hears (sym c.finds.ensures ∙ c.if-finds.false),
  c.turn-turn.ensures.table ∙ c.loop.invariant.1,
)
