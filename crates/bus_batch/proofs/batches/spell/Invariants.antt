use Rattle.std.proofs.Common.{◌≡◌, [], ◌∷◌, ◌++◌, length}
use Rattle.bus_batch.specs.Frames.{message_word, words_of_bytes}
use Rattle.bus_batch.proofs.batches.spell.Given as goal

abbrev pub invariant-loop-i : goal.invariant-loop-i
invariant-loop-i l = record {
  own : l.body.items
      ≡ (l.fn.body.items ++ message_word (length l.bytes) l.number ∷ [])
      ++ words_of_bytes l.i l.bytes;
}
