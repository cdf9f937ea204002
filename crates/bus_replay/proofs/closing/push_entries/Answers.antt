use Rattle.std.proofs.Common.{rules, ◌≡◌, ◌+◌, ◌-◌, ◌++◌, drop, take, min, length, slice_index_or}
use Rattle.std.proofs.Common.{string_bytes, sym, ap, ◌∙◌}
use Rattle.std.specs.Prelude.{flat_map}
use Rattle.std.proofs.lemmas.List.{drop_more}
use Rattle.bus_batch.specs.Frames.{Leaves}
use Rattle.bus_deliverylog.specs.Orders.{merged, merged_from}
use Rattle.bus_replay.specs.Text.{entry_line}
use Rattle.bus_replay.proofs.EntryLemmas.{mark_put}
use Rattle.bus_replay.proofs.closing.push_entries.Goals as goal

pub loop-mark-preserved : goal.loop-mark-preserved
loop-mark-preserved c =
    let left = c.args.left.now in
    let rest = c.loop-mark.rest.now in
    let before = c.loop-mark.before in
    let i = c.loop-mark.mark-index in
    let mark = slice_index_or left i (record { 0 = 0 }, 0) in
    let more : c.min-more.result ≡ min (mark.1 - before) (length rest) = search rules in
    let line : string_bytes c.writeln.new.self
    ≡ string_bytes c.push_items.new.text ++ entry_line (Leaves mark.0) = search rules in
    mark_put (string_bytes c.loop-mark.text) (string_bytes c.push_items.new.text)
    (string_bytes c.writeln.new.self)
    (string_bytes c.args.text.now ++ flat_map entry_line (merged c.args.items.now left)) before rest
    c.split_at.result.0.now
    c.split_at.result.1.now mark (drop (i + 1) left)
    (c.split_at.ensures.front ∙ ap (λ n. take n rest) more)
    (c.split_at.ensures.back ∙ ap (λ n. drop n rest) more) c.in_ok-push_items.ensures line
    (ap (λ ms. string_bytes c.loop-mark.text ++ flat_map entry_line (merged_from before rest ms))
    (sym (drop_more left i (record { 0 = 0 }, 0) c.loop-mark-test.true)) ∙ c.loop-mark.invariant)
