use Rattle.std.proofs.Common.{codes, string_bytes}
use Rattle.bus_picture.specs.Shapes.{at}
use Rattle.bus_picture.proofs.TextLemmas.{grown}
use Rattle.bus_picture.proofs.shapes.push_words_at.Goals as goal

pub returns : goal.returns
returns c =
    grown (string_bytes c.args.text.now) _ (codes ">")
    (grown (string_bytes c.args.text.now) _ (at c.args.x c.args.y) c.in_ok-push_str.ensures.bytes
    c.in_ok-push_at.ensures) c.in_ok-push_str-2.ensures.bytes
