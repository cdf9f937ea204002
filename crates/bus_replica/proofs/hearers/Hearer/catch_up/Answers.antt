use Rattle.std.proofs.Common.{◌∙◌, rules}
use Rattle.bus_replica.specs.Replicas.{Here, LeadTo, replayed_by}
use Rattle.bus_replica.proofs.GoingLaws.{goes_by}
use Rattle.bus_replica.proofs.LeavingLaws.{hearing_told}
use Rattle.bus_replica.proofs.hearers.Hearer.catch_up.Goals as goal

pub invariant_of-self : goal.invariant_of-self
invariant_of-self g c =
    hearing_told (LeadTo g.S.State.is_first g.S.State.applies
    (replayed_by c.self.inside.replayed.value)) g.S.State.applies c.self.inside.receiver.me
    c.told.new.self.me
    c.self.inside.state c.self.inside.left c.self.invariant c.told.ensures.told.got
    c.told.ensures.told.learns

pub loop-init : goal.loop-init
loop-init g c = (search rules, Here)

pub loop-preserved-else-place-length : goal.loop-preserved-else-place-length
loop-preserved-else-place-length g c = (
  c.turn.ensures.bus ∙ c.loop.invariant.0,
  goes_by g.S.State.applies c.told.new.self.me c.loop.self c.turn.new.self c.turn.result
      c.loop.invariant.1 c.turn.ensures.takes,
)

pub loop-preserved : goal.loop-preserved
loop-preserved g c = (
  c.turn.ensures.bus ∙ c.loop.invariant.0,
  goes_by g.S.State.applies c.told.new.self.me c.loop.self c.turn.new.self c.turn.result
      c.loop.invariant.1 c.turn.ensures.takes,
)
