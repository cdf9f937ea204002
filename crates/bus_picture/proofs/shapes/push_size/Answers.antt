use Rattle.std.proofs.Common.{codes, string_bytes, [], ◌∷◌, ◌++◌}
use Rattle.bus_picture.specs.Shapes.{point, extent}
use Rattle.bus_picture.proofs.TextLemmas.{grown}
use Rattle.bus_picture.proofs.shapes.push_size.Goals as goal

pub returns : goal.returns
returns c =
    grown (string_bytes c.args.text.now) _ (codes "'>" ++ 10 ∷ [])
    (grown (string_bytes c.args.text.now) _ (point c.args.width c.args.height)
    (grown (string_bytes c.args.text.now) _ (codes " viewBox='0 0 ")
    (grown (string_bytes c.args.text.now) _ (extent c.args.width c.args.height)
    c.in_ok-push_str.ensures.bytes c.in_ok-push_extent.ensures)
    c.in_ok-push_str-2.ensures.bytes) c.in_ok-push_point.ensures) c.in_ok-push_str-3.ensures.bytes
