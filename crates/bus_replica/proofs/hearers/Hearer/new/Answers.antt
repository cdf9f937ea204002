use Rattle.bus_replica.specs.Replicas.{LeadTo, replayed_by}
use Rattle.bus_replica.proofs.LeavingLaws.{hearing_new}
use Rattle.bus_replica.proofs.hearers.Hearer.new.Goals as goal

pub invariant_of-result : goal.invariant_of-result
invariant_of-result g c =
    hearing_new (LeadTo g.S.State.is_first g.S.State.applies
    (replayed_by c.args.replayed.value)) g.S.State.applies c.args.receiver.me c.args.state
    c.nobody.result c.requires.fold c.requires.nobody c.nobody.ensures
