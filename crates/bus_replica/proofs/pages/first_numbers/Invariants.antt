use Rattle.std.proofs.Common.{◌≡◌, ℕ, ◌<◌, ◌≤◌, get_or, length, slice_index}
use Rattle.bus_register.specs.declared.limits.TheConstants.{MOST_SENDERS}
use Rattle.bus_replica.proofs.pages.first_numbers.Given as goal

abbrev pub invariant-loop-sender : goal.invariant-loop-sender
invariant-loop-sender l = record {
  long : length l.next ≡ MOST_SENDERS;
  noted : (sender : ℕ) → sender < l.sender
      → slice_index l.next sender ≡ get_or l.first sender (slice_index l.fn.before sender);
  others : (sender : ℕ) → l.sender ≤ sender → sender < MOST_SENDERS
      → slice_index l.next sender ≡ slice_index l.fn.before sender;
}
