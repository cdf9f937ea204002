use Rattle.std.proofs.Common.{◌≡◌, ◌-◌, ◌≤◌, slice_index}
use Rattle.std.specs.Slots.{slots_items}
use Rattle.std.specs.Vec.{vec_len, vec_capacity}
use Rattle.bus_world.specs.Log.{words_in_ring}
use Rattle.bus_pageslot.proofs.outcomes.words_left.Given as goal

abbrev pub invariant-loop-place : goal.invariant-loop-place
invariant-loop-place l = record {
  past : l.floor ≤ l.place;
  below : l.place ≤ l.length;
  items : l.room.items
      ≡ words_in_ring (slice_index (slots_items l.closed.words)) l.places.log l.places.log_words
      l.floor (l.place - l.floor);
  len : vec_len l.room ≡ l.place - l.floor;
  roomy : l.length - l.floor ≤ vec_capacity l.room;
}
