use Rattle.std.proofs.Common.{◌≡◌, None, drop, map}
use Rattle.bus_picture.specs.Finding.{fits, latest}
use Rattle.bus_picture.specs.Rows.{row_shown}
use Rattle.bus_picture.proofs.finding.latest.Given as goal

abbrev pub invariant-loop-place : goal.invariant-loop-place
invariant-loop-place l =
    latest (fits l.wanted) l.place l.found (map row_shown (drop l.place l.rows))
    ≡ latest (fits l.wanted) 0 None (map row_shown l.rows)
