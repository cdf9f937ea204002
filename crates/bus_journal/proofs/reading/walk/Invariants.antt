use Rattle.std.proofs.Common.{◌≡◌, ℕ, ◌≤◌, List, ◌++◌, length}
use Rattle.std.specs.List.{AllByRecursion}
use Rattle.bus_journal.specs.Format.{records_bytes}
use Rattle.bus_journal.specs.Records.{IsChunk}
use Rattle.bus_journal.specs.Walks.{words_in}
use Rattle.bus_journal.proofs.reading.walk.Given as goal

abbrev pub invariant-records : goal.invariant-records
invariant-records l = record {
  chunks : List (List ℕ);
  each : AllByRecursion (IsChunk l.header.senders l.header.most) chunks;
  words_are : l.words.items ≡ words_in chunks;
  few : length l.words.items ≤ l.room;
  body_is : l.body ≡ records_bytes l.header.place chunks ++ l.rest;
}

abbrev pub decreases-records : goal.decreases-records
decreases-records l = length l.rest
