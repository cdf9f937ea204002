use Rattle.bus_adoptcommit.proofs.ThreeWordPlays.{late_adopts, late_keeps_own, late_finds_nothing}
use Rattle.bus_adoptcommit.proofs.ThreeWordPlays.{both_adopt, both_read_own, turns_adopt}
use Rattle.bus_adoptcommit.proofs.ThreeWordPlays.{turns_commit}
use Rattle.bus_adoptcommit.proofs.laws.three_words_refuse.Goals as goal

pub returns : goal.returns
returns c = record {
  late = late_adopts;
  in_turn = turns_adopt;
  own_value = late_keeps_own;
  unproposed = late_finds_nothing;
  in_spite = turns_commit;
  own_word = both_read_own;
  no_commit = both_adopt;
}
