-- Turns of a sender, one after another.
use Rattle.std.specs.Prelude.{◌≡◌, ℕ, ◌+◌, ◌≤◌, ◌⊎◌, Bool, true, false, Option, Some, None}
use Rattle.bus_register.specs.declared.kinds.Kind.{Kind}
use Rattle.bus_register.specs.declared.registers.Op.{Op}
use Rattle.bus_register.specs.Protocol.{Protocol}
use Rattle.bus_adoptcommit.specs.declared.verdicts.Verdict.{Verdict}
use Rattle.bus_core.specs.Doings.{step_of}
use Rattle.bus_core.specs.Senders.{Sender, situation}
use Rattle.bus_core.specs.declared.steps.Step.TheVariants as step
use Rattle.bus_tenure.specs.Core.{Election}
use Rattle.bus_tenure.specs.declared.doings.Doing.TheVariants as doing
use Rattle.bus_core.specs.Telling.{FeedTells, RestTells}
use Rattle.bus_tenure.specs.Elections.{Elector, Ratifying, election_with}
use Rattle.bus_tenure.specs.declared.turns.Turn.{Turn}
use Rattle.bus_tenure.specs.declared.turns.Turn.TheVariants as turn
use Rattle.rand_core.specs.Stream.{Stream, next_u32}
use Rattle.bus_automaton.specs.Processes.{Process}
use Rattle.bus_pageslot.specs.Seats.{SenderSeat, TookAndTold}
use Rattle.bus_tenure.specs.Classes.{is_last, is_waiting, still_goes}

-- what an answer tells of the sender as it was: where no step was due, and of a step that found
-- this number, with this random word
pub record Tellings (C : Type 0) : Type 1 where
  pub rest : C → Turn → Type 0
  pub step : C → (got word : ℕ) → Turn → Type 0

-- of the senders of a bus, made of a ratifier's members one by one; this does not unfold of itself
unfoldable pub tells_with : {S : Type 0} → (S → Option Kind) → (S → ℕ → Option Op) → (S → ℕ → ℕ → S)
    → Protocol S Bool Verdict → Tellings (Sender (Elector S))
tells_with kind op fed P = record {
  rest = RestTells;
  step = FeedTells (election_with kind op fed P);
}

-- and of all of them
abbrev pub tells_by : {S : Type 0} → Ratifying S → Tellings (Sender (Elector S))
tells_by q = tells_with q.kind_of q.op q.fed q.protocol

-- one turn: the step that is due, and where none is nothing; with what its answer tells
pub record Turned {C : Type 0} (P : Process C) (T : Tellings C) (old : SenderSeat C) (word : ℕ)
    (answer : Turn) (new : SenderSeat C) : Type 0 where
  pub rests : P.op old.core word ≡ None
      → (new ≡ old) × (answer ≡ P.rest old.core) × T.rest old.core answer
  pub steps : (op : Op) → P.op old.core word ≡ Some op → TookAndTold P T.step old word answer new

-- turns, none of them a last one, led from one sender to another
pub data TurnsOn {C : Type 0} (P : Process C) (T : Tellings C) (first : SenderSeat C) : SenderSeat C
    → Type 0 where
  Here : TurnsOn P T first first
  More : (old : SenderSeat C) (word : ℕ) (answer : Turn) (new : SenderSeat C)
      → TurnsOn P T first old → Turned P T old word answer new → is_last answer ≡ false
      → TurnsOn P T first new

-- a turn of a sender whose next step was plain: it answered Going, and asked for no random word
pub record TurnsPlainly {C : Type 0} (P : Process C) (T : Tellings C) (Plain : C → Type 0)
    (old new : SenderSeat C) : Type 0 where
  pub plain : Plain old.core
  pub wordless : P.wants_word old.core ≡ false
  pub turned : Turned P T old 0 turn.Going new

-- so many such turns led from one sender to another
pub data GoesPlainly {C : Type 0} (P : Process C) (T : Tellings C) (Plain : C → Type 0)
    (first : SenderSeat C) : ℕ → SenderSeat C → Type 0 where
  NoneYet : GoesPlainly P T Plain first 0 first
  Next : (n : ℕ) (old new : SenderSeat C) → GoesPlainly P T Plain first n old
      → TurnsPlainly P T Plain old new
      → GoesPlainly P T Plain first (n + 1) new

-- turns up to a last one, which answered so
pub record Sends {C : Type 0} (P : Process C) (T : Tellings C) (first : SenderSeat C)
    (answer : Turn) (new : SenderSeat C) : Type 0 where
  pub old : SenderSeat C
  pub word : ℕ
  pub before : TurnsOn P T first old
  pub turned : Turned P T old word answer new
  pub last : is_last answer ≡ true

-- ---- several turns, of which the caller gives the first a random word
-- A turn with this word, and so many more, each behind one that was answered Going, and with a step
-- that asks for no word; the last one was answered so.
pub data TakesOn {C : Type 0} (P : Process C) (T : Tellings C) (first : SenderSeat C) (word : ℕ)
    : ℕ → Turn → SenderSeat C → Type 0 where
  Once : (answer : Turn) (new : SenderSeat C) → Turned P T first word answer new
      → TakesOn P T first word 0 answer new
  Again : (n : ℕ) (before : Turn) (old : SenderSeat C) (any : ℕ) (answer : Turn)
      (new : SenderSeat C) → TakesOn P T first word n before old → still_goes before ≡ true
      → P.wants_word old.core ≡ false → Turned P T old any answer new
      → TakesOn P T first word (n + 1) answer new

-- the same of at most so many more: it ended where one was answered otherwise than Going, where the
-- next step asks for a random word, or where so many more were taken
pub record TakesUpTo {C : Type 0} (P : Process C) (T : Tellings C) (first : SenderSeat C)
    (word more : ℕ) (answer : Turn) (new : SenderSeat C) : Type 0 where
  pub n : ℕ
  pub takes : TakesOn P T first word n answer new
  pub few : n ≤ more
  pub stops : still_goes answer ≡ true → (P.wants_word new.core ≡ true) ⊎ (n ≡ more)

-- ---- turns between which a function is asked whether to go on; Tells f told f' where a call of f
-- may tell that, and leaves f'

-- Turns, none of them a last one, led from one sender to another. For each that answered Waiting or
-- Behind, and for no other, there is a call of the function that told to go on; each call found it
-- as the call before had left it. When it was made is not said.
pub data AsksOn {C F : Type 0} (P : Process C) (T : Tellings C) (Tells : F → Bool → F → Type 0)
    (first : SenderSeat C) (given : F) : SenderSeat C → F → Type 0 where
  Begins : AsksOn P T Tells first given first given
  Goes : (old : SenderSeat C) (f : F) (word : ℕ) (answer : Turn) (new : SenderSeat C)
      → AsksOn P T Tells first given old f → Turned P T old word answer new → is_last answer ≡ false
      → is_waiting answer ≡ false → AsksOn P T Tells first given new f
  Asks : (old : SenderSeat C) (f : F) (word : ℕ) (answer : Turn) (new : SenderSeat C) (f' : F)
      → AsksOn P T Tells first given old f → Turned P T old word answer new
      → is_waiting answer ≡ true → Tells f true f' → AsksOn P T Tells first given new f'

-- such turns up to a last one, which answered so
pub record SendsAsking {C F : Type 0} (P : Process C) (T : Tellings C)
    (Tells : F → Bool → F → Type 0) (first : SenderSeat C) (given : F) (answer : Turn)
    (new : SenderSeat C) : Type 0 where
  pub old : SenderSeat C
  pub asked : F
  pub word : ℕ
  pub before : AsksOn P T Tells first given old asked
  pub turned : Turned P T old word answer new
  pub last : is_last answer ≡ true

-- such turns up to one that answered Waiting or Behind, after which the function was asked and told
-- to stop
pub record StopsWaiting {C F : Type 0} (P : Process C) (T : Tellings C)
    (Tells : F → Bool → F → Type 0) (first : SenderSeat C) (given : F) (new : SenderSeat C) :
    Type 0 where
  pub old : SenderSeat C
  pub asked : F
  pub word : ℕ
  pub answer : Turn
  pub before : AsksOn P T Tells first given old asked
  pub turned : Turned P T old word answer new
  pub waits : is_waiting answer ≡ true
  pub left : F
  pub told : Tells asked false left

-- ---- the random words of turns, from what a generator will answer
-- the word of a turn, and what the generator is left with: of a vote the next word, and else none
-- is drawn
abbrev pub word_drawn : Bool → Stream → ℕ × Stream
word_drawn true words = next_u32 words
word_drawn false words = (0, words)

-- Turns led from one sender to another, and their words from what a generator was to answer to what
-- it is left with: each turn that asks for a word takes the next one, and no other word is drawn.
pub data DrawsOn {C : Type 0} (P : Process C) (T : Tellings C) (first : SenderSeat C)
    (given : Stream) : SenderSeat C → Stream → Type 0 where
  Undrawn : DrawsOn P T first given first given
  Drawn : (old : SenderSeat C) (words : Stream) (answer : Turn) (new : SenderSeat C)
      → DrawsOn P T first given old words
      → Turned P T old (word_drawn (P.wants_word old.core) words).0 answer new
      → DrawsOn P T first given new (word_drawn (P.wants_word old.core) words).1

-- a turn, whose word was what a generator was to answer, and what that is left with
pub record TurnsDrawing {C : Type 0} (P : Process C) (T : Tellings C) (old : SenderSeat C)
    (words : Stream) (answer : Turn) (new : SenderSeat C) (left : Stream) : Type 0 where
  pub word : ℕ
  pub drawn : (word, left) ≡ word_drawn (P.wants_word old.core) words
  pub turned : Turned P T old word answer new

-- ---- turns in a row, of which the last one's answer is given
-- So many led from one sender to another, and none asked for a random word: before each of them the
-- sender was so, and each but the last answered Going.
pub record TakesPlainly {C : Type 0} (P : Process C) (T : Tellings C) (So : C → Type 0)
    (first : SenderSeat C) (many : ℕ) (answer : Turn) (new : SenderSeat C) : Type 0 where
  pub n : ℕ
  pub old : SenderSeat C
  pub before : GoesPlainly P T So first n old
  pub so : So old.core
  pub wordless : P.wants_word old.core ≡ false
  pub turned : Turned P T old 0 answer new
  pub all : many ≡ n + 1

-- One or more led from one sender to another: each but the last answered Going and asked for no
-- random word, and the word of the last one was what a generator was to answer.
pub record TakesSome {C : Type 0} (P : Process C) (T : Tellings C) (first : SenderSeat C)
    (words : Stream) (answer : Turn) (new : SenderSeat C) (left : Stream) : Type 0 where
  pub n : ℕ
  pub old : SenderSeat C
  pub before : GoesPlainly P T (λ c. Unit {0}) first n old
  pub last : TurnsDrawing P T old words answer new left

-- its next step is one of the election of this tenure, of which it knows no owner yet
abbrev pub ElectsIn : {E : Type 0} → Election E → Sender E → ℕ → Type 0
ElectsIn X v t = step_of (situation X v) ≡ step.Does (doing.Elects t)

-- the same of whatever tenure
pub record IsElecting {E : Type 0} (X : Election E) (v : Sender E) : Type 0 where
  pub tenure : ℕ
  pub elects : ElectsIn X v tenure
