use Rattle.std.proofs.Common.{◌∙◌, ap, sym, map, ◌++◌}
use Rattle.std.proofs.lemmas.List.{append-nil}
use Rattle.bus_picture.specs.Rows.{row_of}
use Rattle.bus_picture.proofs.RowLemmas.{rows_more, added}
use Rattle.bus_picture.proofs.rows.rows_of.Goals as goal
use Rattle.bus_picture.proofs.rows.rows_of.Goals.{in-Some+in_ok-push, in_default}

pub loop-line-preserved : goal.loop-line-preserved
loop-line-preserved c =
    elim c.match-row_with.branch [
      | in-Some+in_ok-push w ↦ rows_more c.deref-line-items.result.now c.loop-line.line-index _
          c.loop-line.rows.items c.match-row_with.rows.items c.row_with.result c.loop-line-test.true
          c.loop-line.invariant
          (c.row_with.ensures ∙ ap (λ ts. row_of (map (λ t. t.now) ts)) c.deref.ensures.value
          ∙ ap row_of c.in_ok-texts.ensures)
          (ap (λ v. v.items) w.rows-is ∙ w.in_ok-push.ensures.items
          ∙ ap (λ r. c.loop-line.rows.items ++ added r) (sym w.in-Some.is))
      | in_default w ↦ rows_more c.deref-line-items.result.now c.loop-line.line-index _
          c.loop-line.rows.items c.match-row_with.rows.items c.row_with.result c.loop-line-test.true
          c.loop-line.invariant
          (c.row_with.ensures ∙ ap (λ ts. row_of (map (λ t. t.now) ts)) c.deref.ensures.value
          ∙ ap row_of c.in_ok-texts.ensures)
          (ap (λ v. v.items) w.rows-is ∙ sym (append-nil c.loop-line.rows.items)
          ∙ ap (λ r. c.loop-line.rows.items ++ added r) (sym w.in_default.is))
    ]
