use Rattle.std.proofs.Common.{◌++◌, ◌∙◌, ◌+◌, ap, map, drop, string_bytes}
use Rattle.bus_picture.specs.Rows.{row_shown}
use Rattle.bus_picture.specs.Pictures.{overs_text}
use Rattle.bus_picture.proofs.PictureLemmas.{over_more}
use Rattle.bus_picture.proofs.pictures.push_overs.Goals as goal

pub loop-place-preserved : goal.loop-place-preserved
loop-place-preserved c =
    ap (λ t.
    t
    ++ overs_text c.args.columns (c.loop-place.place + 1)
    (map row_shown (drop (c.loop-place.place + 1) c.args.rows.now))) c.in_ok-push_over.ensures
    ∙ over_more c.args.columns c.args.rows.now c.loop-place.place _ (string_bytes c.loop-place.text)
    c.loop-place-test.true
    ∙ c.loop-place.invariant
