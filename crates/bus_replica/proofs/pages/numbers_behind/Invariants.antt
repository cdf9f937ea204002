use Rattle.std.proofs.Common.{◌≡◌, ℕ, ◌<◌, get_or, length, slice_index, take}
use Rattle.bus_register.specs.declared.limits.TheConstants.{MOST_SENDERS}
use Rattle.bus_replica.specs.Pages.{next_behind}
use Rattle.bus_replica.proofs.pages.numbers_behind.Given as goal

abbrev pub invariant-loop-item : goal.invariant-loop-item
invariant-loop-item l = record {
  long : length l.next ≡ MOST_SENDERS;
  noted : (sender : ℕ) → sender < MOST_SENDERS → slice_index l.next sender
      ≡ next_behind sender (take l.item-index l.items)
      (get_or l.first sender (slice_index l.fn.before sender));
}
