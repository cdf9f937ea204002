use Rattle.std.proofs.Common.{string_bytes}
use Rattle.bus_picture.specs.Shapes.{at, short, text_body}
use Rattle.bus_picture.proofs.TextLemmas.{grown}
use Rattle.bus_picture.proofs.shapes.push_beside_at.Goals as goal

pub returns : goal.returns
returns c =
    grown (string_bytes c.args.text.now) _ (text_body (short c.args.answer.now))
    (grown (string_bytes c.args.text.now) _ (at c.args.x c.args.y) c.in_ok-push_str.ensures.bytes
    c.in_ok-push_at.ensures) c.in_ok-push_short.ensures
