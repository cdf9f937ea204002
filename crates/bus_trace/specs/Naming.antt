-- That each word of a bus has the name of what it is.
use Rattle.std.specs.Prelude.{◌≡◌, ℕ, ◌+◌, ◌*◌, ◌%◌, ◌<◌, Option, Some, None, ◌∷◌, ◌++◌, codes}
use Rattle.bus_core.specs.Reusing.Participants.{sizes_with}
use Rattle.bus_machine.specs.Machine.{log_place, passed_by}
use Rattle.bus_presence.specs.Reclamation.{presence_at, row_of}
use Rattle.bus_tenure.specs.Core.{Layout, length_at, stage_at, row_at}
use Rattle.bus_replay.specs.Text.{behind}
use Rattle.bus_trace.specs.Words.{TraceSizes, decision_word, row_word, word_name}

-- which row a tenure uses, and where it begins
abbrev pub row_used : Option ℕ → ℕ → ℕ
row_used None t = t
row_used (Some rows) t = t % rows

abbrev pub row_place : Layout → Option ℕ → ℕ → ℕ
row_place x None t = row_at x t
row_place x (Some rows) t = row_of (sizes_with x rows) t

-- Of a bus of this layout, of which so many rows are used again, by these sizes: the length, the
-- stage, the presence of each sender, each word of the row of a tenure by what it is, the passed
-- place of each receiver, and each word of the log.
pub record AreNamed (p : TraceSizes) (x : Layout) (o : Option ℕ) : Type 0 where
  pub length : word_name p length_at ≡ codes "length"
  pub stage : word_name p stage_at ≡ codes "stage"
  pub presence : (rows s : ℕ) → o ≡ Some rows → s < x.senders
      → word_name p (presence_at (sizes_with x rows) s) ≡ codes "presence" ++ behind s
  pub row : (t k : ℕ) → t < x.rows → k < x.width
      → word_name p (row_place x o t + k)
      ≡ codes "row" ++ behind (row_used o t) ++ 32 ∷ row_word p k
  -- of a row: the announcement of each sender, and then the decision of each bit
  pub announcement : (t s : ℕ) → t < x.rows → s < x.senders
      → word_name p (row_place x o t + s)
      ≡ codes "row" ++ behind (row_used o t) ++ 32 ∷ (codes "announcement" ++ behind s)
  pub bit : (t k word : ℕ) → t < x.rows → word < p.decision
      → x.senders + k * p.decision + word < x.width
      → word_name p (row_place x o t + (x.senders + k * p.decision + word))
      ≡ codes "row" ++ behind (row_used o t)
      ++ 32 ∷ (codes "bit" ++ behind k ++ 32 ∷ decision_word p word)
  pub passed : (r at : ℕ) → passed_by x o r ≡ Some at
      → word_name p at ≡ codes "passed" ++ behind r
  pub log : (cell : ℕ) → word_name p (log_place x o + cell) ≡ codes "log" ++ behind cell
