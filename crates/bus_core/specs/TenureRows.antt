-- Where the row of a tenure begins, as code has it.
use Rattle.std.specs.Prelude.{ℕ, Option}
use Rattle.bus_tenure.specs.Core.{Layout, row_at}
use Rattle.bus_core.specs.Places.{row_start}
use Rattle.bus_core.specs.declared.reuses.Reuse.{Reuse}
use Rattle.bus_core.specs.declared.tenure_rows.Row.{Row}

-- with a row for each tenure, and on this bus
abbrev pub row_told : Layout → Option Reuse → ℕ → Row
row_told x reuse t = record { apart = row_at x t; at = row_start x reuse t }
