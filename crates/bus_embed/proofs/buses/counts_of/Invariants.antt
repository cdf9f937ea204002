use Rattle.std.proofs.Common.{◌≡◌, ℕ, ◌<◌, length, slice_index}
use Rattle.bus_register.specs.declared.limits.TheConstants.{MOST_SENDERS}
use Rattle.bus_embed.specs.Ends.{CountsItems}
use Rattle.bus_embed.proofs.buses.counts_of.Given as goal

abbrev pub invariant-loop-place : goal.invariant-loop-place
invariant-loop-place l =
    (length l.counts ≡ MOST_SENDERS)
    × ((s : ℕ) → s < l.place → CountsItems l.ended s (slice_index l.counts s))
