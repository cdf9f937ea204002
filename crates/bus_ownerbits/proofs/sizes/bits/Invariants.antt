use Rattle.std.proofs.Common.{◌≡◌, ℕ, ◌-◌, ◌<◌, ◌≤◌, ◌^◌}
use Rattle.bus_ownerbits.proofs.sizes.bits.Given as goal

abbrev pub invariant-loop-reach : goal.invariant-loop-reach
invariant-loop-reach l = record {
  power : l.reach ≡ 2 ^ l.bits;
  less : (k : ℕ) → k < l.bits → 2 ^ k < l.n;
  within : l.reach ≤ 128;
}

abbrev pub decreases-loop-reach : goal.decreases-loop-reach
decreases-loop-reach l = 128 - l.reach
