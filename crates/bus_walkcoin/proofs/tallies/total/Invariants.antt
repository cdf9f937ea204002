use Rattle.std.proofs.Common.{◌≡◌, ◌*◌, ◌^◌, ◌≤◌, take}
use Rattle.std.specs.Prelude.{sum_by}
use Rattle.bus_walkcoin.proofs.tallies.total.Given as goal

abbrev pub invariant-loop-tally : goal.invariant-loop-tally
invariant-loop-tally l =
    (l.heads ≡ sum_by (λ t. t.heads) (take l.tally-index l.tallies))
    × (l.tails ≡ sum_by (λ t. t.tails) (take l.tally-index l.tallies))
    × (l.heads ≤ l.tally-index * 2 ^ 32) × (l.tails ≤ l.tally-index * 2 ^ 32)
