use Rattle.std.proofs.Common.{◌≡◌, ◌≤◌, ◌++◌, length, take, drop}
use Rattle.bus_embed.proofs.writing.write_over.Given as goal

abbrev pub invariant-loop-place : goal.invariant-loop-place
invariant-loop-place g l =
    (l.old ≡ take l.place l.fn.new ++ drop l.place l.fn.old) × (length l.old ≡ length l.fn.old)
    × (l.place ≤ length l.fn.new) × (l.place ≤ length l.fn.old)
