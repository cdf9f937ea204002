use Rattle.std.proofs.Common.{◌++◌, length, drop, replicate, ap, ◌∙◌}
use Rattle.std.specs.Int.{w64, from_be_bytes}
use Rattle.bus_batch.proofs.Spelling.{word_filled}
use Rattle.bus_batch.proofs.batches.data_word_of.Goals as goal

pub returns : goal.returns
returns c =
    c.from_be_bytes.ensures
    ∙ ap (λ z. from_be_bytes w64 (z ++ drop (length c.args.bytes.now) (replicate 8 0)))
    c.copy_from_slice.ensures.after
    ∙ word_filled c.args.bytes.now c.requires
