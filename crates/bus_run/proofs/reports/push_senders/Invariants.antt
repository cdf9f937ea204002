use Rattle.std.proofs.Common.{◌≡◌, ◌++◌, string_bytes}
use Rattle.bus_run.specs.Audit.{OfOrder}
use Rattle.bus_run.specs.RunText.{sender_lines}
use Rattle.bus_run.proofs.reports.push_senders.Given as goal

abbrev pub invariant-loop-number : goal.invariant-loop-number
invariant-loop-number l = OfOrder l.ended
    (λ order. string_bytes l.text ≡ string_bytes l.fn.text ++ sender_lines order l.number)
