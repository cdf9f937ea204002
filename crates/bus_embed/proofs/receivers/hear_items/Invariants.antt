use Rattle.std.proofs.Common.{◌≡◌, ◌≤◌, length}
use Rattle.bus_embed.proofs.HearLaws.{Goes}
use Rattle.bus_embed.proofs.receivers.hear_items.Given as goal

abbrev pub invariant-loop : goal.invariant-loop
invariant-loop l =
    (l.receiver.bus ≡ l.fn.receiver.bus) × (length l.items ≡ length l.fn.items)
    × (l.many ≤ length l.fn.items)
    × Goes l.fn.receiver.me l.fn.items l.counter l.many l.items l.receiver.me
