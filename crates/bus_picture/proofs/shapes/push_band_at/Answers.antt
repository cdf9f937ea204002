use Rattle.std.proofs.Common.{codes, string_bytes}
use Rattle.bus_picture.specs.Shapes.{point, at, down_to, text_body}
use Rattle.bus_picture.proofs.TextLemmas.{grown}
use Rattle.bus_picture.proofs.shapes.push_band_at.Goals as goal

pub returns : goal.returns
returns c =
    grown (string_bytes c.args.text.now) _ (text_body c.args.tenure.now)
    (grown (string_bytes c.args.text.now) _ (at c.args.x c.args.top)
    (grown (string_bytes c.args.text.now) _ (codes "<text class='tenure' dx='-12' dy='4'")
    (grown (string_bytes c.args.text.now) _ (down_to c.args.bottom)
    (grown (string_bytes c.args.text.now) _ (point c.args.x c.args.top)
    c.in_ok-push_str.ensures.bytes c.in_ok-push_point.ensures) c.in_ok-push_down_to.ensures)
    c.in_ok-push_str-2.ensures.bytes) c.in_ok-push_at.ensures) c.in_ok-push_said.ensures
