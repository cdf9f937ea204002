use Rattle.bus_automaton.specs.ThreeWordBuses.{automaton, process}
use Rattle.std.specs.Option.{option_copied}
use Rattle.bus_replica.specs.Openings.{IsPairing}
use Rattle.bus_replica.specs.Replicas.{replayed_by}
use Rattle.bus_replica.proofs.opening.pair.Given as goal

abbrev pub invariant-loop-receiver : goal.invariant-loop-receiver
invariant-loop-receiver g l =
    IsPairing process automaton g.S.State.is_first g.S.State.applies l.shape
    (option_copied l.page) (replayed_by l.order) l.replicas.items l.senders.rest.items
    l.receiver-iterator.rest.items
