use Rattle.std.proofs.Common.{codes, string_bytes}
use Rattle.bus_picture.specs.Shapes.{point, path_end}
use Rattle.bus_picture.proofs.TextLemmas.{grown}
use Rattle.bus_picture.proofs.shapes.push_arrow_at.Goals as goal

pub returns : goal.returns
returns c =
    grown (string_bytes c.args.text.now) _ (path_end)
    (grown (string_bytes c.args.text.now) _ (point c.args.x c.args.y)
    (grown (string_bytes c.args.text.now) _ (codes "L")
    (grown (string_bytes c.args.text.now) _ (point c.args.from_x c.args.from_y)
    c.in_ok-push_str.ensures.bytes c.in_ok-push_point.ensures) c.in_ok-push_str-2.ensures.bytes)
    c.in_ok-push_point-2.ensures) c.in_ok-push_str-3.ensures.bytes
