-- What the words of a bus are called, each by what it is.
use Rattle.std.specs.Prelude.{ℕ, ◌+◌, ◌-◌, ◌/◌, ◌%◌, ◌==◌, Bool, Option, Some, None, List, ◌∷◌}
use Rattle.std.specs.Prelude.{◌++◌, codes, nat_lt, nat_le, if◌then◌else◌}
use Rattle.bus_register.specs.Protocol.{Protocol}
use Rattle.bus_adoptcommit.specs.declared.verdicts.Verdict.{Verdict}
use Rattle.bus_binconsensus.specs.Decisions.{decisions}
use Rattle.bus_core.specs.declared.limits.TheConstants.{PASSED_APART}
use Rattle.bus_machine.specs.Machine.{log_place, passers_place}
use Rattle.bus_machine.specs.Playing.{layout_passed}
use Rattle.bus_world.specs.declared.shapes.Shape.{Shape}
use Rattle.bus_replay.specs.Text.{behind}
use Rattle.bus_trace.specs.declared.memory_maps.MemoryMap.{MemoryMap}

-- the sizes by which words are named
pub record TraceSizes : Type 0 where
  pub senders : ℕ
  -- how many presences: none where each tenure has a row of its own, else one for each sender
  pub presences : ℕ
  -- of one binary decision
  pub rounds : ℕ
  -- how many words a ratifier has, a binary decision, and a row
  pub ratifier : ℕ
  pub decision : ℕ
  pub row : ℕ
  -- where the passed places begin, which is where the log does if there are none, and the log
  pub passed : ℕ
  pub log : ℕ

-- as a program holds them
abbrev pub sizes_told : MemoryMap → TraceSizes
sizes_told p = record {
  senders = p.senders;
  presences = p.presences;
  rounds = p.rounds;
  ratifier = p.ratifier;
  decision = p.decision;
  row = p.row;
  passed = p.passed;
  log = p.log;
}

-- a presence for each sender where rows are used again
abbrev pub presences_of : Shape → Option ℕ → ℕ
presences_of shape None = 0
presences_of shape (Some rows) = shape.senders

-- the sizes of a bus of this shape, over such ratifiers: it has a row for each tenure, or so many
-- rows are used again; and so many passed places
abbrev pub sizes_of : {S : Type 0} → Protocol S Bool Verdict → Shape → Option ℕ → ℕ → TraceSizes
sizes_of P shape reuse passers = record {
  senders = shape.senders;
  presences = presences_of shape reuse;
  rounds = shape.rounds;
  ratifier = P.width shape.senders;
  decision = (decisions P shape.rounds).width shape.senders;
  row = (layout_passed P shape reuse passers).width;
  passed = passers_place (layout_passed P shape reuse passers) reuse;
  log = log_place (layout_passed P shape reuse passers) reuse;
}

-- a ratifier of three words has two inputs and a proposal; the words of another one are numbered
abbrev pub ratifier_word : TraceSizes → ℕ → List ℕ
ratifier_word p k =
    if p.ratifier == 3
    then (if k == 0 then codes "input 0"
    else (if k == 1 then codes "input 1" else codes "proposal")) else
    (codes "word" ++ behind k)

-- of a round: the words of its conciliator, and then those of its ratifier
abbrev pub round_word : TraceSizes → ℕ → List ℕ
round_word p k =
    if k == 0 then codes "mark 0" else
    (if k == 1 then codes "mark 1" else
    (if k == 2 then codes "counter" else ratifier_word p (k - 3)))

-- Of a binary decision: its rounds, and then the fallback word. The first round has no conciliator,
-- so three words less.
abbrev pub decision_word : TraceSizes → ℕ → List ℕ
decision_word p k =
    if (k + 3) / (3 + p.ratifier) == p.rounds then codes "fallback" else
    (codes "round" ++ behind ((k + 3) / (3 + p.ratifier) + 1)
    ++ 32 ∷ round_word p ((k + 3) % (3 + p.ratifier)))

-- of a row: the announcements, and then the decision of each bit, from the lowest
abbrev pub row_word : TraceSizes → ℕ → List ℕ
row_word p k =
    if nat_lt k p.senders then codes "announcement" ++ behind k else
    (codes "bit" ++ behind ((k - p.senders) / p.decision)
    ++ 32 ∷ decision_word p ((k - p.senders) % p.decision))

-- the length, the stage, the presences, the rows, the passed places, and the log
abbrev pub word_name : TraceSizes → ℕ → List ℕ
word_name p r =
    if r == 0 then codes "length" else
    (if r == 1 then codes "stage" else
    (if nat_lt (r - 2) p.presences then codes "presence" ++ behind (r - 2) else
    (if nat_le p.log r then codes "log" ++ behind (r - p.log) else
    (if nat_le p.passed r then codes "passed" ++ behind ((r - p.passed) / PASSED_APART) else
    (codes "row" ++ behind ((r - 2 - p.presences) / p.row)
    ++ 32 ∷ row_word p ((r - 2 - p.presences) % p.row))))))
