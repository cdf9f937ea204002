use Rattle.std.proofs.Common.{◌≡◌, ◌+◌, take, drop}
use Rattle.std.specs.List.{flat_map}
use Rattle.bus_batch.specs.Messages.{numbered_messages}
use Rattle.bus_batch.specs.Frames.{message_words}
use Rattle.bus_batch.proofs.batches.Batch.waiting.Given as goal

abbrev pub invariant-loop-i : goal.invariant-loop-i
invariant-loop-i l = record {
  own : l.messages.items ≡ take l.i l.self.messages;
  rest : l.words
      ≡ flat_map message_words (numbered_messages (l.self.first + l.i) (drop l.i l.self.messages));
}
