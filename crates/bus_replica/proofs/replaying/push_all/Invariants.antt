use Rattle.std.proofs.Common.{◌≡◌, ◌++◌, take}
use Rattle.bus_replica.proofs.replaying.push_all.Given as goal

abbrev pub invariant-loop-item : goal.invariant-loop-item
invariant-loop-item l = l.items.items ≡ l.initial.items.items ++ take l.item-index l.more
