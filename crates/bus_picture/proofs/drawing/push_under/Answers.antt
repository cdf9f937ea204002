use Rattle.std.proofs.Common.{string_bytes, map}
use Rattle.bus_picture.specs.Rows.{row_shown}
use Rattle.bus_picture.specs.Drawing.{source_of, band_text, arrow_text}
use Rattle.bus_picture.proofs.TextLemmas.{grown}
use Rattle.bus_picture.proofs.drawing.push_under.Goals as goal

pub returns : goal.returns
returns c =
    grown (string_bytes c.args.text.now) _ (arrow_text c.args.columns
    (source_of (map row_shown c.args.above.now) (row_shown c.args.row.now)) c.args.place
    (row_shown c.args.row.now))
    (grown (string_bytes c.args.text.now) _ (band_text c.args.columns
    (map row_shown c.args.rows.now) (map row_shown c.args.above.now) c.args.place
    (row_shown c.args.row.now)) c.in_ok-push_head.ensures c.in_ok-push_band.ensures)
    c.in_ok-push_arrow.ensures
