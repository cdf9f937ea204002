use Rattle.std.proofs.Common.{◌≡◌, ℕ, ◌<◌, length, slice_index}
use Rattle.bus_register.specs.declared.limits.TheConstants.{MOST_SENDERS}
use Rattle.bus_embed.proofs.buses.bases_of.Given as goal

abbrev pub invariant-loop-place : goal.invariant-loop-place
invariant-loop-place l =
    (length l.bases ≡ MOST_SENDERS)
    × ((s : ℕ) → s < l.place → slice_index l.bases s ≡ slice_index l.ended.bases s)
