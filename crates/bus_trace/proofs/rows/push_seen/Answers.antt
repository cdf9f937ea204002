use Rattle.std.proofs.Common.{string_bytes}
use Rattle.std.proofs.lemmas.Result.{on_ok_weaker}
use Rattle.bus_trace.specs.Words.{sizes_told}
use Rattle.bus_trace.proofs.RowLemmas.{seen_put}
use Rattle.bus_trace.proofs.rows.push_seen.Goals as goal

pub returns : goal.returns
returns c =
    on_ok_weaker c.push_number-2.result
    (λ last. seen_put (sizes_told c.args.memory_map) c.args.seen (string_bytes c.args.text.now)
    (string_bytes c.push_tenure.new.text) (string_bytes c.push_column.new.text)
    (string_bytes c.push_word.new.text) (string_bytes c.push_str.new.self)
    (string_bytes c.push_number.new.text)
    (string_bytes c.push_number-2.new.text) c.name.result.now c.register_of.result.0
    c.in_ok-push_tenure.ensures c.name.ensures c.in_ok-push_column.ensures c.register_of.ensures
    c.in_ok-push_word.ensures c.in_ok-push_str.ensures.bytes c.in_ok-push_number.ensures last)
    c.push_number-2.ensures
