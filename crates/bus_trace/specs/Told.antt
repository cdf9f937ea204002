-- The lines of a trace, as a program that has seen the steps makes them.
use Rattle.std.specs.Prelude.{ℕ, Bool, Option, Some, None, List, [], ◌∷◌, ◌++◌, codes, decimal}
use Rattle.bus_register.specs.Words.{register}
use Rattle.bus_batch.specs.declared.messages.Mark.TheVariants as mark
use Rattle.bus_world.specs.World.{Event, Put, Ask, Turn, Recv, Stop, Gone}
use Rattle.bus_world.specs.declared.events.Answer.{Answer}
use Rattle.bus_replay.specs.Text.{answer_text, fork_text, behind}
use Rattle.bus_trace.specs.Words.{TraceSizes, word_name}
use Rattle.bus_register.specs.Names.{kind_name}
use Rattle.bus_trace.specs.Rows.{column, tenure_text, no_step, who_text}
use Rattle.bus_trace.specs.declared.seen.Seen.{Seen}
use Rattle.bus_trace.specs.declared.seen.SeenWord.{SeenWord}

-- what stands in the place of a kind where there is no step
abbrev pub name_told : Event → List ℕ
name_told (Put s bytes) = codes "put"
name_told (Ask s mark.End) = codes "close"
name_told (Ask s mark.Leave) = codes "leave"
name_told (Turn s word) = codes "-"
name_told (Recv r) = codes "-"
name_told (Stop s) = codes "stop"
name_told (Gone r) = codes "gone"

abbrev pub seen_columns : TraceSizes → Seen → List ℕ
seen_columns p s =
    column (tenure_text s.step.tenure) ++ column (kind_name s.step.kind)
    ++ column (word_name p (register s.step.op)) ++ column (decimal s.found)
    ++ column (decimal s.left)

abbrev pub seen_told : TraceSizes → Event → Option Seen → List ℕ
seen_told p e None = no_step (name_told e)
seen_told p e (Some s) = seen_columns p s

-- all columns but the number
abbrev pub row_told : TraceSizes → ℕ → Event → Option Seen → Answer → List ℕ
row_told p line e seen a =
    column (decimal line) ++ who_text e ++ seen_told p e seen ++ answer_text a

-- of a fork, on this word, if on one
abbrev pub word_columns : TraceSizes → Option SeenWord → List ℕ
word_columns p None = no_step (codes "fork")
word_columns p (Some w) =
    column (codes "-") ++ column (codes "Fork") ++ column (word_name p w.at.0)
    ++ column (decimal w.found) ++ column (decimal w.left)

abbrev pub fork_told : TraceSizes → (line receiver : ℕ) → Option SeenWord → Bool → List ℕ
fork_told p line receiver word did =
    column (decimal line) ++ column (codes "receiver" ++ behind receiver) ++ word_columns p word
    ++ fork_text did

-- with the number
abbrev pub numbered_row : ℕ → List ℕ → List ℕ
numbered_row number row = column (decimal number) ++ row ++ 10 ∷ []
