-- What holds of a binary decision, in one record.
use Rattle.std.specs.Prelude.{◌≡◌, ◌≢◌, ℕ, ◌+◌, ◌*◌, ◌-◌, ◌≤◌, Bool, Option, Some, None, ◌⊎◌}
use Rattle.bus_walkcoin.specs.declared.tallies.TheConstants.{MOST_VOTES}
use Rattle.bus_register.specs.declared.registers.Op.{Op}
use Rattle.bus_register.specs.Protocol.{Protocol, Laws}
use Rattle.bus_adoptcommit.specs.declared.verdicts.Verdict.{Verdict}
use Rattle.bus_adoptcommit.specs.declared.verdicts.Verdict.TheVariants.{Adopt}
use Rattle.bus_binconsensus.specs.declared.fallbacks.Fallback.{Fallback}
use Rattle.bus_binconsensus.specs.declared.objects.Object.{Object}
use Rattle.bus_binconsensus.specs.declared.objects.Object.TheVariants.{Fall}
use Rattle.bus_binconsensus.specs.Deciding.{Decides}
use Rattle.bus_binconsensus.specs.Chain.{Walk, span}
use Rattle.bus_binconsensus.specs.Objects.{part_at, part_of, first_of, objects_of, object_fed}
use Rattle.bus_binconsensus.specs.Objects.{object_output, object_input, object_calls, Decider}
use Rattle.bus_binconsensus.specs.Objects.{decide_op, decide_fed, decide_protocol}
use Rattle.bus_binconsensus.specs.Objects.Part.{Ratifier, Conciliator, FallbackWord}

-- which objects the rounds have: after each conciliator comes a ratifier, and after the last
-- ratifier the fallback word
pub record Rounds : Type 0 where
  pub first : (rounds : ℕ) → 1 ≤ rounds → part_at (first_of rounds) ≡ Ratifier
  pub ratifiers : (r : ℕ) → part_at (2 * r + 1) ≡ Ratifier
  pub conciliators : (r : ℕ) → part_at (2 * r + 2) ≡ Conciliator
  pub last : part_at 0 ≡ FallbackWord

-- each process went through the objects in turn: its own input came to the first, and each further
-- one was given what the one before adopted
pub record InTurn {S T : Type 0} (P : Protocol S Bool Verdict) (C : Protocol T Bool Bool)
    (rounds n at : ℕ) (words : ℕ → ℕ) (locals : ℕ → Option (Decider S T)) : Type 0 where
  -- of each object, the last local states that processes had there
  pub visits : ℕ → ℕ → Option (Object S T)
  -- they are those that the object keeps with its own words: its words and those of the objects
  -- after it end where the decision ends
  pub kept : (k place : ℕ) → k ≤ first_of rounds
      → place + span (objects_of P C) n k ≡ at + span (objects_of P C) n (first_of rounds)
      → (objects_of P C k).Keeps n place words (visits k)
  pub walks : (p : ℕ) (d : Decider S T) → locals p ≡ Some d
      → Walk (objects_of P C) (first_of rounds) n at visits p d
  -- who has not entered the decision was in no object
  pub absent : (p k : ℕ) → locals p ≡ None → visits k p ≡ None

-- the process stays in its object, which holds x after the step
pub record Stays {S T : Type 0} (P : Protocol S Bool Verdict) (C : Protocol T Bool Bool)
    (x : Object S T) (old new : Decider S T) : Type 0 where
  pub same : new.after ≡ old.after
  pub object : new.object ≡ x
  -- it has not adopted, where another object is left
  pub unadopted : (v : Bool) → old.after ≢ 0 → object_output P C x ≢ Some (Adopt v)

-- the process goes on to the next object, whose input is the value that its object, which holds x
-- after the step, adopted
pub record GoesOn {S T : Type 0} (P : Protocol S Bool Verdict) (C : Protocol T Bool Bool)
    (x : Object S T) (old new : Decider S T) : Type 0 where
  pub next : old.after ≡ new.after + 1
  pub value : Bool
  pub adopted : object_output P C x ≡ Some (Adopt value)
  pub given : object_input P C new.object ≡ value

-- a step of one process, whose object holds x after it: the process stays, or goes on by one
-- object, given what its own adopted
abbrev pub Onward : {S T : Type 0} → Protocol S Bool Verdict → Protocol T Bool Bool → Object S T
    → Decider S T → Decider S T → Type 0
Onward P C x old new = Stays P C x old new ⊎ GoesOn P C x old new

pub record DecideLaw {S T : Type 0} (op : S → ℕ → Option Op) (fed : S → ℕ → ℕ → S)
    (P : Protocol S Bool Verdict) (opC : T → ℕ → Option Op) (fedC : T → ℕ → ℕ → T)
    (C : Protocol T Bool Bool) : Type 0 where
  -- decisions agree, and are inputs of processes that have begun
  pub laws : (rounds : ℕ)
      → Laws (decide_op op opC) (decide_fed P C fed fedC) (decide_protocol P C rounds) Decides
  -- each round from the second on runs its conciliator and then its ratifier, and each object is
  -- given what the one before adopted
  pub rounds : Rounds
  pub in_turn : (rounds n at : ℕ) (words : ℕ → ℕ) (locals : ℕ → Option (Decider S T))
      → (decide_protocol P C rounds).Keeps n at words locals → InTurn P C rounds n at words locals
  -- a process begins in the first object, and each step goes onward, whatever it found
  pub begins : (rounds n me at : ℕ) (v : Bool)
      → ((decide_protocol P C rounds).started n me v at).after ≡ first_of rounds
  pub onward : (rounds n me at : ℕ) (d : Decider S T) (got word : ℕ) (o : Op)
      → (decide_protocol P C rounds).Belongs n me at d → decide_op op opC d word ≡ Some o
      → Onward P C (object_fed fed fedC d.object got word) d (decide_fed P C fed fedC d got word)
  -- a process stands in the object of its number, and so at the fallback word only past all others
  pub in_its_part : (rounds n me at : ℕ) (d : Decider S T)
      → (decide_protocol P C rounds).Belongs n me at d → part_of d.object ≡ part_at d.after
  pub falls_last : (rounds n me at : ℕ) (d : Decider S T) (f : Fallback)
      → (decide_protocol P C rounds).Belongs n me at d → d.object ≡ Fall f → d.after ≡ 0
  -- the steps to a decision, at most
  pub steps : (rounds n : ℕ)
      → (decide_protocol P C rounds).steps n
      ≡ rounds * P.steps n + (rounds - 1) * (2 + MOST_VOTES * 2) + 1
  -- a random word is asked for only in a conciliator
  pub asks : (rounds : ℕ) (d : Decider S T)
      → (decide_protocol P C rounds).wants_word d ≡ object_calls C d.object
