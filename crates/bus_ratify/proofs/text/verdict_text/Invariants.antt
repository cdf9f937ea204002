use Rattle.std.proofs.Common.{◌≡◌, ◌++◌, string_bytes, drop}
use Rattle.std.specs.Prelude.{flat_map}
use Rattle.std.specs.List.{enumerate_from}
use Rattle.bus_ratify.specs.Text.{verdict_line, verdict_text}
use Rattle.bus_ratify.proofs.text.verdict_text.Given as goal

abbrev pub invariant-loop-process : goal.invariant-loop-process
invariant-loop-process l =
    string_bytes l.text
    ++ flat_map (λ x. verdict_line x.0 x.1) (enumerate_from l.process (drop l.process l.verdicts))
    ≡ verdict_text l.verdicts
