use Rattle.std.proofs.Common.{◌≡◌, drop, map}
use Rattle.bus_picture.specs.Places.{columns_from, no_columns}
use Rattle.bus_picture.specs.Rows.{row_shown}
use Rattle.bus_picture.proofs.columns.columns_of.Given as goal

abbrev pub invariant-loop-row : goal.invariant-loop-row
invariant-loop-row l =
    columns_from l.columns (map row_shown (drop l.row-index l.rows))
    ≡ columns_from no_columns (map row_shown l.rows)
