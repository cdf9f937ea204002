use Rattle.std.proofs.Common.{subst, sym}
use Rattle.bus_batch.specs.Frames.{AreFrames}
use Rattle.bus_automaton.specs.ThreeWordBuses.{automaton, process}
use Rattle.bus_replica.proofs.LongTables.{senders_are}
use Rattle.bus_replica.proofs.RecordedLaws.{within_words}
use Rattle.bus_replica.proofs.recorded_laws.words_hold_what_was_applied.Goals as goal

pub returns : goal.returns
returns c = λ plan t j v frames at has lawful.
    within_words process (automaton plan) t j v frames at has
    (subst (λ n. AreFrames n frames) (sym (senders_are plan)) lawful)
