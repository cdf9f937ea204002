use Rattle.std.proofs.Common.{◌≡◌, ◌-◌, ◌≤◌, slice_index}
use Rattle.bus_world.specs.Log.{words_in_ring}
use Rattle.bus_machine.proofs.logs.copy_ring.Given as goal

abbrev pub invariant-loop-place : goal.invariant-loop-place
invariant-loop-place l =
    (l.from ≤ l.place) × (l.place ≤ l.to)
    × (l.copy.items
    ≡ words_in_ring (slice_index l.words) l.log l.capacity l.from (l.place - l.from))
