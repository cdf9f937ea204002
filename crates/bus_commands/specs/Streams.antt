-- What is read from a reader and written to a writer, where their bytes are known.
use Rattle.std.specs.Prelude.{◌≡◌, ℕ, ◌+◌, ◌≤◌, ⊤, List, ◌++◌, length, Option, IfSome}
use Rattle.std.specs.Io.KnownBytes.{Appends, Consumes, IsAtEnd, Keeps}
use Rattle.bus_run.specs.declared.faults.RunFault.{RunFault}
use Rattle.bus_run.specs.declared.faults.RunFault.TheVariants.{Read, Write, TooMuch, NoMemory}

-- the input was read whole, and has so many bytes at most
pub record ReadsWhole (limit : ℕ) (remaining : Option (List ℕ)) (input : List ℕ) : Type 0 where
  pub all : IfSome remaining (λ bytes. bytes ≡ input)
  pub short : length input ≤ limit

-- some of the front was read, this many bytes at most
abbrev pub ReadsAtMost : Option (List ℕ) → Option (List ℕ) → ℕ → Type 0
ReadsAtMost old new most = (bytes : List ℕ) × (length bytes ≤ most) × Consumes old new bytes

-- more was read than so many bytes, by a single byte
abbrev pub ReadsTooMuch : ℕ → Option (List ℕ) → Option (List ℕ) → Type 0
ReadsTooMuch limit old new = (bytes : List ℕ) × (length bytes ≡ limit + 1) × Consumes old new bytes

-- the front of a text was written: all of it, a part, or nothing
pub record WritesPart (old new : Option (List ℕ)) (text : List ℕ) : Type 0 where
  pub done : List ℕ
  pub left : List ℕ
  pub parts : text ≡ done ++ left
  pub written : Appends old new done

-- Why an input of at most so many bytes was not read whole. The reader is spoken of as it was and
-- as it is. That a read failed no contract of a reader tells; but only while no more bytes came
-- than these may Read be answered.
abbrev pub IsReadFault : ℕ → Option (List ℕ) → Option (List ℕ) → RunFault → Type 0
IsReadFault limit before after Read = ReadsAtMost before after limit
IsReadFault limit before after TooMuch = ReadsTooMuch limit before after
IsReadFault limit before after NoMemory = ⊤
IsReadFault limit before after other = ⊥

-- Why an input of at most so many bytes was not answered. `IsAnswered` says which text answers
-- which input; the reader is spoken of as it was (`before`) and as it is (`after`), and the writer
-- too (`from`, `to`). But for a failed write nothing was written.
abbrev pub IsScriptFault : (limit : ℕ) → (IsAnswered : List ℕ → List ℕ → Type 0)
    → (before after from to : Option (List ℕ)) → RunFault → Type 0
IsScriptFault limit IsAnswered before after from to Read =
    ReadsAtMost before after limit × Keeps from to
IsScriptFault limit IsAnswered before after from to TooMuch =
    ReadsTooMuch limit before after × Keeps from to
IsScriptFault limit IsAnswered before after from to NoMemory = Keeps from to
IsScriptFault limit IsAnswered before after from to Write =
    (input text : List ℕ) × ReadsWhole limit before input × IsAtEnd after × IsAnswered input text
    × WritesPart from to text
IsScriptFault limit IsAnswered before after from to other = ⊥
