use Rattle.std.proofs.Common.{◌≡◌, ◌-◌, ◌≤◌, ◌++◌, length, slice_index}
use Rattle.bus_world.specs.Log.{words_in_ring}
use Rattle.bus_replay.proofs.histories.History.copy_published.Given as goal

abbrev pub invariant-loop-place : goal.invariant-loop-place
invariant-loop-place l =
    let before = length l.fn.self.log in
    let capacity = l.fn.self.capacity in
    (before ≤ l.place) × (l.place - before ≤ slice_index l.words 0 - before)
    × (l.self-inside.capacity ≡ capacity) × (l.self-inside.given.items ≡ l.fn.self.given)
    × (l.log ≡ length l.words - capacity)
    × (l.self-inside.log.items
    ≡ l.fn.self.log ++ words_in_ring (slice_index l.words) (length l.words - capacity) capacity
    before (l.place - before))
