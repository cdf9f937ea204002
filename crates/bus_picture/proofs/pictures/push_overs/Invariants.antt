use Rattle.std.proofs.Common.{◌≡◌, ◌++◌, drop, map, string_bytes}
use Rattle.bus_picture.specs.Rows.{row_shown}
use Rattle.bus_picture.specs.Pictures.{overs_text}
use Rattle.bus_picture.proofs.pictures.push_overs.Given as goal

abbrev pub invariant-loop-place : goal.invariant-loop-place
invariant-loop-place l =
    string_bytes l.text ++ overs_text l.columns l.place (map row_shown (drop l.place l.rows))
    ≡ string_bytes l.fn.text ++ overs_text l.columns 0 (map row_shown l.rows)
