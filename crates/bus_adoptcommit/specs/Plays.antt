-- One object, played by a schedule over words of zero.
use Rattle.std.specs.Prelude.{◌≡◌, ℕ, ◌+◌, ◌<◌, ◌≤◌, Bool, List, [], ◌∷◌, length, slice_get}
use Rattle.std.specs.Prelude.{slice_index, Option, Some, None, IsSome, option_map}
use Rattle.bus_register.specs.declared.limits.TheConstants.{MOST_PROCESSES}
use Rattle.bus_register.specs.declared.registers.Op.{Op}
use Rattle.bus_register.specs.Protocol.{Protocol}
use Rattle.bus_register.specs.Tables.{Beside}
use Rattle.bus_register.specs.Words.{register, after}
use Rattle.bus_adoptcommit.specs.declared.verdicts.Verdict.{Verdict}
use Rattle.bus_adoptcommit.specs.Agreement.{Legal}
use Rattle.bus_adoptcommit.specs.Schedule.{table_of, entries, entered_input, LegalThroughout}

-- what stands between two steps: a word at each place, and the local state of each process
pub record Moment (S : Type 0) : Type 0 where
  pub words : ℕ → ℕ
  pub locals : ℕ → Option S

-- the moment that these lists hold
abbrev pub moment : {S : Type 0} → List ℕ → List S → Moment S
moment cells processes = record { words = slice_index cells; locals = slice_get processes }

-- process p, at s, takes the step o: it finds the word that stands there, and no other word or
-- process changes
pub record IsStep {S : Type 0} (fed : S → ℕ → ℕ → S) (p : ℕ) (s : S) (o : Op) (old new : Moment S) :
    Type 0 where
  pub word : new.words (register o) ≡ after o (old.words (register o))
  pub other_words : Beside (register o) old.words new.words
  pub own : new.locals p ≡ Some (fed s (old.words (register o)) 0)
  pub others : Beside p old.locals new.locals

-- process p takes its next step, and where it has none, nothing changes
pub record IsMove {S : Type 0} (op : S → ℕ → Option Op) (fed : S → ℕ → ℕ → S) (p : ℕ)
    (old new : Moment S) : Type 0 where
  pub from : S
  pub here : old.locals p ≡ Some from
  pub moves : (o : Op) → op from 0 ≡ Some o → IsStep fed p from o old new
  pub rests : op from 0 ≡ None → new ≡ old

-- one entry of a schedule after another
abbrev pub Plays : {S : Type 0} → (S → ℕ → Option Op) → (S → ℕ → ℕ → S) → Moment S → List ℕ
    → Moment S → Type 0
Plays op fed old [] new = new ≡ old
Plays {S} op fed old (p ∷ schedule) new =
    (between : Moment S) × IsMove op fed p old between × Plays op fed between schedule new

-- words of zero, and a process for each input at its start
abbrev pub at_starts : {S : Type 0} → Protocol S Bool Verdict → List Bool → Moment S
at_starts P given = record {
  words = λ _. 0;
  locals = λ p. option_map (λ v. P.started (length given) p v 0) (slice_get given p);
}

-- what the processes give out after a schedule, played from words of zero and their starts
pub record IsPlay {S : Type 0} (op : S → ℕ → Option Op) (fed : S → ℕ → ℕ → S)
    (P : Protocol S Bool Verdict) (given : List Bool) (schedule : List ℕ)
    (outs : List (Option Verdict)) : Type 0 where
  pub last : Moment S
  pub plays : Plays op fed (at_starts P given) schedule last
  pub outputs : (p : ℕ) → slice_get outs p ≡ option_map P.output (last.locals p)

-- of n processes the first i are at their starts, over words of zero
pub record AtStarts {S : Type 0} (P : Protocol S Bool Verdict) (n i : ℕ) (given : List Bool)
    (processes : List S) : Type 0 where
  pub size : length processes ≡ i
  pub starts : (p : ℕ) (s : S) → slice_get processes p ≡ Some s
      → (v : Bool) × (slice_get given p ≡ Some v) × (s ≡ P.started n p v 0)
  pub kept : P.Keeps n 0 (λ _. 0) (slice_get processes)

-- a process takes neither more nor fewer steps than `steps`: it starts with that many left, a step
-- takes one of them, and an output stands only where none is left
pub record IsExact {S I O : Type 0} (op : S → ℕ → Option Op) (fed : S → ℕ → ℕ → S)
    (P : Protocol S I O) : Type 0 where
  pub starts : (n me at : ℕ) (v : I) → me < n → n ≤ MOST_PROCESSES
      → P.left (P.started n me v at) ≡ P.steps n
  pub falls : (n me at : ℕ) (s : S) (got word : ℕ) (o : Op) → P.Belongs n me at s
      → op s word ≡ Some o → P.left s ≡ P.left (fed s got word) + 1
  pub ends : (s : S) (d : O) → P.output s ≡ Some d → P.left s ≡ 0

-- the verdicts after a schedule, by process, where an entry is a process's next step, if it has one
-- left
pub record Verdicts {S : Type 0} (op : S → ℕ → Option Op) (fed : S → ℕ → ℕ → S)
    (P : Protocol S Bool Verdict) (given : List Bool) (schedule : List ℕ)
    (outs : List (Option Verdict)) : Type 0 where
  -- they are those of the play
  pub play : IsPlay op fed P given schedule outs
  -- one for each process, open or not
  pub one_each : length outs ≡ length given
  -- after each prefix, those of the processes that have all their entries in it are legal
  pub throughout : LegalThroughout (P.steps (length given)) given schedule (table_of outs)
  -- all are legal
  pub at_end : Legal (entered_input given schedule) (table_of outs)
  -- a process that has all its entries has a verdict
  pub stands : (p : ℕ) → p < length given → P.steps (length given) ≤ entries schedule p
      → IsSome (table_of outs p)
  -- and where each process takes all its steps, no other has
  pub stays_open : IsExact op fed P → (p : ℕ) → entries schedule p < P.steps (length given)
      → table_of outs p ≡ None
