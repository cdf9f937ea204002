use Rattle.std.proofs.Common.{◌≡◌, ◌++◌, drop, map, string_bytes}
use Rattle.bus_picture.specs.Rows.{row_shown}
use Rattle.bus_picture.specs.Drawing.{arrows_of}
use Rattle.bus_picture.specs.Pictures.{unders_text}
use Rattle.bus_picture.proofs.pictures.push_unders.Given as goal

abbrev pub invariant-loop-place : goal.invariant-loop-place
invariant-loop-place l =
    string_bytes l.text
    ++ unders_text l.columns (map row_shown l.rows) (arrows_of (map row_shown l.rows)) l.place
    (map row_shown (drop l.place l.rows))
    ≡ string_bytes l.fn.text
    ++ unders_text l.columns (map row_shown l.rows) (arrows_of (map row_shown l.rows)) 0
    (map row_shown l.rows)
