use Rattle.std.proofs.Common.{◌≡◌, ◌++◌, drop, string_bytes}
use Rattle.bus_run.specs.RunText.{receiver_lines}
use Rattle.bus_run.proofs.reports.push_receivers.Given as goal

abbrev pub invariant-loop-place : goal.invariant-loop-place
invariant-loop-place l =
    string_bytes l.text ++ receiver_lines l.place (drop l.place l.heards)
    ≡ string_bytes l.fn.text ++ receiver_lines 0 l.heards
