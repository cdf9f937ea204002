use Rattle.std.proofs.Common.{◌≡◌, ℕ, ◌+◌, List, length, take}
use Rattle.bus_batch.specs.Frames.{Frame, AreFrames, log_words}
use Rattle.bus_journal.proofs.Pushing.{Pushed}
use Rattle.bus_journal.proofs.records.append_frames.Given as goal

abbrev pub invariant-loop-rest : goal.invariant-loop-rest
invariant-loop-rest l = record {
  kept : take (length l.initial.out.items) l.out.items ≡ l.initial.out.items;
  there : l.at + length l.rest ≡ l.fn.place + length l.fn.words;
  pushed : (senders : ℕ) (frames : List Frame) → AreFrames senders frames
      → log_words frames ≡ l.fn.words
      → Pushed l.fn.place l.rest l.initial.out.items l.out.items l.at frames;
}

abbrev pub decreases-loop-rest : goal.decreases-loop-rest
decreases-loop-rest l = length l.rest
