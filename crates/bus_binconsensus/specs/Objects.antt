-- The objects of a binary decision, numbered from the end: the fallback word is 0, and before it
-- stand ratifiers with odd numbers and conciliators with even ones, from one ratifier to another. R
-- rounds begin at the ratifier 2R - 1.
use Rattle.std.specs.Prelude.{ℕ, ◌*◌, ◌-◌, ◌%◌, Bool, false, Option, is_some, ◌==◌, if◌then◌else◌}
use Rattle.bus_register.specs.declared.kinds.Kind.{Kind}
use Rattle.bus_register.specs.declared.registers.Op.{Op}
use Rattle.bus_register.specs.Protocol.{Protocol}
use Rattle.bus_adoptcommit.specs.declared.verdicts.Verdict.{Verdict}
use Rattle.bus_adoptcommit.specs.declared.verdicts.Verdict.TheVariants.{Commit, Adopt}
use Rattle.bus_binconsensus.specs.declared.objects.Object.{Object}
use Rattle.bus_binconsensus.specs.declared.objects.Object.TheVariants.{Ratify, Concile, Fall}
use Rattle.bus_binconsensus.specs.Fallback as fallback
use Rattle.bus_binconsensus.specs.Chain.{Objects, Link, chain_op, chain_fed, chain_protocol}
use Rattle.bus_binconsensus.specs.Lift.{Reads, lifted_option, lift}

-- what an object is
pub data Part : Type 0 where
  Ratifier : Part
  Conciliator : Part
  FallbackWord : Part

-- which object stands at this number
abbrev pub part_at : ℕ → Part
part_at k = if k == 0 then FallbackWord else (if k % 2 == 1 then Ratifier else Conciliator)

-- which of the three this object is
abbrev pub part_of : {S T : Type 0} → Object S T → Part
part_of (Ratify q) = Ratifier
part_of (Concile c) = Conciliator
part_of (Fall f) = FallbackWord

-- the number of the first of these rounds
abbrev pub first_of : ℕ → ℕ
first_of rounds = 2 * rounds - 1

abbrev pub object_kind : {S T : Type 0} → (S → Option Kind) → (T → Option Kind) → Object S T
    → Option Kind
object_kind kind kindC (Ratify q) = kind q
object_kind kind kindC (Concile c) = kindC c
object_kind kind kindC (Fall f) = fallback.kind_of f

abbrev pub object_op : {S T : Type 0} → (S → ℕ → Option Op) → (T → ℕ → Option Op) → Object S T → ℕ
    → Option Op
object_op op opC (Ratify q) word = op q word
object_op op opC (Concile c) word = opC c word
object_op op opC (Fall f) word = fallback.op_of f

abbrev pub object_fed : {S T : Type 0} → (S → ℕ → ℕ → S) → (T → ℕ → ℕ → T) → Object S T → ℕ → ℕ
    → Object S T
object_fed fed fedC (Ratify q) got word = Ratify (fed q got word)
object_fed fed fedC (Concile c) got word = Concile (fedC c got word)
object_fed fed fedC (Fall f) got word = Fall (fallback.fed_of f got)

-- a conciliator adopts, and the fallback word commits
abbrev pub object_output : {S T : Type 0} → Protocol S Bool Verdict → Protocol T Bool Bool
    → Object S T → Option Verdict
object_output P C (Ratify q) = P.output q
object_output P C (Concile c) = lifted_option Adopt (C.output c)
object_output P C (Fall f) = lifted_option Commit f.decided

abbrev pub object_input : {S T : Type 0} → Protocol S Bool Verdict → Protocol T Bool Bool
    → Object S T → Bool
object_input P C (Ratify q) = P.input q
object_input P C (Concile c) = C.input c
object_input P C (Fall f) = f.value

abbrev pub object_begun : {S T : Type 0} → Protocol S Bool Verdict → Protocol T Bool Bool
    → Object S T → Bool
object_begun P C (Ratify q) = P.has_begun q
object_begun P C (Concile c) = C.has_begun c
object_begun P C (Fall f) = is_some f.decided

abbrev pub object_wants : {S T : Type 0} → Protocol S Bool Verdict → Protocol T Bool Bool
    → Object S T → Bool
object_wants P C (Ratify q) = P.wants_word q
object_wants P C (Concile c) = C.wants_word c
object_wants P C (Fall f) = false

-- the next step asks for a random word, where ratifiers do not
abbrev pub object_calls : {S T : Type 0} → Protocol T Bool Bool → Object S T → Bool
object_calls C (Ratify q) = false
object_calls C (Concile c) = C.wants_word c
object_calls C (Fall f) = false

abbrev pub object_left : {S T : Type 0} → Protocol S Bool Verdict → Protocol T Bool Bool
    → Object S T → ℕ
object_left P C (Ratify q) = P.left q
object_left P C (Concile c) = C.left c
object_left P C (Fall f) = fallback.left_from f.decided

abbrev pub reads_of : {S T : Type 0} → Protocol S Bool Verdict → Protocol T Bool Bool
    → Reads (Object S T)
reads_of P C = record {
  input = object_input P C;
  has_begun = object_begun P C;
  output = object_output P C;
  wants_word = object_wants P C;
  left = object_left P C;
}

abbrev pub part_protocol : {S T : Type 0} → Protocol S Bool Verdict → Protocol T Bool Bool → Part
    → Protocol (Object S T) Bool Verdict
part_protocol P C Ratifier = lift (reads_of P C) Ratify P
part_protocol P C Conciliator = lift (reads_of P C) Concile C
part_protocol P C FallbackWord = lift (reads_of P C) Fall fallback.fallback_protocol

-- the objects of a decision by ratifiers P and conciliators C
abbrev pub objects_of : {S T : Type 0} → Protocol S Bool Verdict → Protocol T Bool Bool
    → Objects (Object S T)
objects_of P C k =
    let part : Protocol _ Bool Verdict = part_protocol P C (part_at k) in
    record {
      width = part.width;
      steps = part.steps;
      started = part.started;
      input = object_input P C;
      has_begun = object_begun P C;
      output = object_output P C;
      wants_word = object_wants P C;
      left = object_left P C;
      Belongs = part.Belongs;
      Keeps = part.Keeps;
    }

-- one process in a decision
abbrev pub Decider : Type 0 → Type 0 → Type 0
Decider S T = Link (Object S T)

-- the next step
abbrev pub decide_op : {S T : Type 0} → (S → ℕ → Option Op) → (T → ℕ → Option Op) → Decider S T → ℕ
    → Option Op
decide_op op opC = chain_op (object_op op opC)

-- what the process holds after a step that found this number
abbrev pub decide_fed : {S T : Type 0} → Protocol S Bool Verdict → Protocol T Bool Bool
    → (S → ℕ → ℕ → S) → (T → ℕ → ℕ → T) → Decider S T → ℕ → ℕ → Decider S T
decide_fed P C fed fedC = chain_fed (objects_of P C) (object_fed fed fedC)

-- a binary decision of so many rounds as a protocol
abbrev pub decide_protocol : {S T : Type 0} → Protocol S Bool Verdict → Protocol T Bool Bool → ℕ
    → Protocol (Decider S T) Bool Bool
decide_protocol P C rounds = chain_protocol (objects_of P C) (first_of rounds)
