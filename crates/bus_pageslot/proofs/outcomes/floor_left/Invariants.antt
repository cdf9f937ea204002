use Rattle.std.proofs.Common.{◌≡◌, ◌≤◌, slice_index}
use Rattle.std.specs.Slots.{slots_items}
use Rattle.bus_world.specs.Log.{least_passed}
use Rattle.bus_pageslot.proofs.outcomes.floor_left.Given as goal

abbrev pub invariant-loop-r : goal.invariant-loop-r
invariant-loop-r l =
    (l.r ≤ l.places.passers)
    × (l.least
    ≡ least_passed (slice_index (slots_items l.closed.words)) l.places.passed l.r l.length)
