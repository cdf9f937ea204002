-- A protocol: processes that step one at a time over shared words, from inputs to outputs.
-- Adopt-commit objects, coins, conciliators, binary decisions and elections are protocols, each
-- with an outcome of its own, which relates the inputs that count to the outputs that stand.
use Rattle.std.specs.Prelude.{◌≡◌, ℕ, ◌+◌, ◌<◌, ◌≤◌, Bool, true, false, Option, Some, None, IsSome}
use Rattle.std.specs.Prelude.{if◌then◌else◌}
use Rattle.bus_register.specs.declared.limits.TheConstants.{MOST_PROCESSES}
use Rattle.bus_register.specs.declared.registers.Op.{Op}
use Rattle.bus_register.specs.declared.registers.Op.TheVariants.{Store}
use Rattle.bus_register.specs.Words.{register, SumFits}
use Rattle.bus_register.specs.Tables.{of_some, Beside, Agree, Stepped}

-- the parts of a protocol with local states of type S, inputs of type I and outputs of type O
pub record Protocol (S I O : Type 0) : Type 1 where
  -- how many words an object for n processes has
  pub width : ℕ → ℕ
  -- how many steps one of n processes takes at most
  pub steps : ℕ → ℕ
  -- the local state before the first step: of n processes, number me, with this input, over words
  -- from at on
  pub started : ℕ → ℕ → I → ℕ → S
  pub input : S → I
  -- the first step was taken, so that the input counts
  pub has_begun : S → Bool
  pub output : S → Option O
  -- the next step asks for a random word
  pub wants_word : S → Bool
  -- the steps that are left, at most
  pub left : S → ℕ
  -- s is a local state of process me of n, over words from at on
  pub Belongs : ℕ → ℕ → ℕ → S → Type 0
  -- what the words from at on and the local states of n processes always keep
  pub Keeps : ℕ → ℕ → (ℕ → ℕ) → (ℕ → Option S) → Type 0

-- the input, if the process has begun
abbrev pub counted_input : {S I O : Type 0} → Protocol S I O → S → Option I
counted_input P s = if P.has_begun s then Some (P.input s) else None

-- the inputs that count, by process
abbrev pub inputs : {S I O : Type 0} → Protocol S I O → (ℕ → Option S) → ℕ → Option I
inputs P locals p = of_some (counted_input P) (locals p)

-- the outputs that stand, by process
abbrev pub outputs : {S I O : Type 0} → Protocol S I O → (ℕ → Option S) → ℕ → Option O
outputs P locals p = of_some P.output (locals p)

-- what a start is
pub record Starts {S I O : Type 0} (P : Protocol S I O) (n me at : ℕ) (v : I) : Type 0 where
  pub belongs : P.Belongs n me at (P.started n me v at)
  pub input : P.input (P.started n me v at) ≡ v
  pub fresh : P.has_begun (P.started n me v at) ≡ false
  pub bounded : P.left (P.started n me v at) ≤ P.steps n

-- what a step from s to t is, whatever it found
pub record Goes {S I O : Type 0} (P : Protocol S I O) (n me at : ℕ) (o : Op) (s t : S) :
    Type 0 where
  pub above : at ≤ register o
  pub below : register o < at + P.width n
  pub belongs : P.Belongs n me at t
  pub input : P.input t ≡ P.input s
  pub begun : P.has_begun t ≡ true
  pub falls : P.left t < P.left s

-- a step that does not look at what it found
abbrev pub IsStore : Op → Type 0
IsStore o = (r : ℕ) × (x : ℕ) × (o ≡ Store record { 0 = r } x)

-- The laws of a protocol of at most 64 processes, whose machine takes the steps op and goes on by
-- fed.
pub record Laws {S I O : Type 0} (op : S → ℕ → Option Op) (fed : S → ℕ → ℕ → S) (P : Protocol S I O)
    (Outcome : (ℕ → Option I) → (ℕ → Option O) → Type 0) : Type 0 where
  -- each start
  pub starts : (n me at : ℕ) (v : I) → me < n → n ≤ MOST_PROCESSES → Starts P n me at v
  -- each step of one process, whatever it found: its word is one of the object's
  pub goes : (n me at : ℕ) (s : S) (got word : ℕ) (o : Op) → P.Belongs n me at s
      → op s word ≡ Some o → Goes P n me at o s (fed s got word)
  -- a process has an output exactly when it takes no further step
  pub ends : (s : S) (word : ℕ) → op s word ≡ None → IsSome (P.output s) × (P.has_begun s ≡ true)
  pub unended : (s : S) (word : ℕ) (o : Op) → op s word ≡ Some o → P.output s ≡ None
  -- the random word matters only where it is asked for
  pub unmoved : (s : S) (got word word' : ℕ) → P.wants_word s ≡ false
      → (op s word ≡ op s word') × (fed s got word ≡ fed s got word')
  -- a store does not tell what it found
  pub blind : (s : S) (got got' word : ℕ) (o : Op) → op s word ≡ Some o → IsStore o
      → fed s got word ≡ fed s got' word
  -- words of zero and no process
  pub fresh : (n at : ℕ) (words : ℕ → ℕ) → Agree at (P.width n) (λ _. 0) words
      → P.Keeps n at words (λ _. None)
  -- a process may be put to its start
  pub enters : (n at : ℕ) (words : ℕ → ℕ) (old new : ℕ → Option S) (p : ℕ) (v : I)
      → P.Keeps n at words old → p < n → n ≤ MOST_PROCESSES → old p ≡ None
      → new p ≡ Some (P.started n p v at) → Beside p old new → P.Keeps n at words new
  -- a process may step, and finds what stands
  pub moves :
      (n at : ℕ) (words words' : ℕ → ℕ) (old new : ℕ → Option S) (p : ℕ) (s : S) (word : ℕ) (o : Op)
      → P.Keeps n at words old → old p ≡ Some s → op s word ≡ Some o
      → new p ≡ Some (fed s (words (register o)) word) → Beside p old new
      → Stepped at (P.width n) o words words' → P.Keeps n at words' new
  -- an addition that comes next does not pass a word's range
  pub fits : (n at : ℕ) (words : ℕ → ℕ) (locals : ℕ → Option S) (p : ℕ) (s : S) (word : ℕ) (o : Op)
      → P.Keeps n at words locals → locals p ≡ Some s → op s word ≡ Some o
      → SumFits o (words (register o))
  -- nothing else matters: no other word, and no way of writing the tables
  pub frame : (n at : ℕ) (words words' : ℕ → ℕ) (old new : ℕ → Option S) → P.Keeps n at words old
      → Agree at (P.width n) words words' → ((q : ℕ) → new q ≡ old q) → P.Keeps n at words' new
  -- a local state is that of one of the n processes
  pub known : (n at : ℕ) (words : ℕ → ℕ) (locals : ℕ → Option S) (p : ℕ) (s : S)
      → P.Keeps n at words locals → locals p ≡ Some s → (p < n) × P.Belongs n p at s
  -- what follows
  pub outcome : (n at : ℕ) (words : ℕ → ℕ) (locals : ℕ → Option S) → P.Keeps n at words locals
      → Outcome (inputs P locals) (outputs P locals)
