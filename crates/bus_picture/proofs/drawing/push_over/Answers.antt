use Rattle.std.proofs.Common.{string_bytes}
use Rattle.bus_picture.specs.Rows.{row_shown}
use Rattle.bus_picture.specs.Places.{down, edge}
use Rattle.bus_picture.specs.Shapes.{number_at, words_at, words_end}
use Rattle.bus_picture.specs.Drawing.{what_text}
use Rattle.bus_picture.proofs.TextLemmas.{grown}
use Rattle.bus_picture.proofs.drawing.push_over.Goals as goal

pub returns : goal.returns
returns c =
    grown (string_bytes c.args.text.now) _ (words_end)
    (grown (string_bytes c.args.text.now) _ (what_text (row_shown c.args.row.now))
    (grown (string_bytes c.args.text.now) _ (words_at (edge c.args.columns) (down c.args.place))
    (grown (string_bytes c.args.text.now) _
    (number_at (down c.args.place) c.args.row.now.number.now) c.in_ok-push_mark.ensures
    c.in_ok-push_number.ensures)
    c.in_ok-push_beside.ensures) c.in_ok-push_what.ensures) c.in_ok-push_str.ensures.bytes
