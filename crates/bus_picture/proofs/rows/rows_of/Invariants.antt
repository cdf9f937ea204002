use Rattle.std.proofs.Common.{◌≡◌, take, map, eqb}
use Rattle.std.specs.List.{slice_split, filter_map}
use Rattle.bus_picture.specs.Rows.{row_of, row_shown}
use Rattle.bus_picture.proofs.rows.rows_of.Given as goal

abbrev pub invariant-loop-line : goal.invariant-loop-line
invariant-loop-line l =
    map row_shown l.rows.items
    ≡ filter_map (λ line. row_of (slice_split (λ b. eqb b 9) line))
    (map (λ t. t.now) (take l.line-index l.line-items))
