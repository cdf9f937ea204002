-- A chain of objects (Aspnes 2010: conciliators and ratifiers composed). Each object is one of
-- valid and coherent adopt-commit: a process goes through them in turn, is given by each the value
-- of the one before, and stops in the first that commits. The objects are numbered from the end:
-- after the object k come k more, and the last one always commits.
use Rattle.std.specs.Prelude.{◌≡◌, ℕ, zero, suc, ◌+◌, ◌-◌, ◌<◌, ◌≤◌, Bool, true, Option, Some}
use Rattle.std.specs.Prelude.{None, ◌==◌, if◌then◌else◌}
use Rattle.bus_register.specs.declared.limits.TheConstants.{MOST_PROCESSES}
use Rattle.bus_register.specs.declared.registers.Op.{Op}
use Rattle.bus_register.specs.Protocol.{Protocol}
use Rattle.bus_adoptcommit.specs.declared.verdicts.Verdict.{Verdict}
use Rattle.bus_adoptcommit.specs.declared.verdicts.Verdict.TheVariants.{Commit, Adopt}
use Rattle.bus_adoptcommit.specs.Agreement.{value_of}

-- the objects of a chain, by the number of those that come after
abbrev pub Objects : Type 0 → Type 1
Objects X = ℕ → Protocol X Bool Verdict

-- one process in a chain: its own input, how many objects come after the one where it stands, and
-- the local state there
pub record Link (X : Type 0) : Type 0 where
  pub n : ℕ
  pub me : ℕ
  -- the first word of the object
  pub at : ℕ
  pub input : Bool
  pub after : ℕ
  pub object : X

-- the words of object k and of those after it
abbrev pub span : {X : Type 0} → Objects X → ℕ → ℕ → ℕ
span objects n zero = (objects zero).width n
span objects n (suc k) = (objects (suc k)).width n + span objects n k

-- the steps in object k and in those after it, at most
abbrev pub steps_from : {X : Type 0} → Objects X → ℕ → ℕ → ℕ
steps_from objects n zero = (objects zero).steps n
steps_from objects n (suc k) = (objects (suc k)).steps n + steps_from objects n k

-- the steps in the objects after k, at most
abbrev pub steps_after : {X : Type 0} → Objects X → ℕ → ℕ → ℕ
steps_after objects n zero = 0
steps_after objects n (suc k) = steps_from objects n k

-- the process goes on to the next object with this value
abbrev pub link_entered : {X : Type 0} → Objects X → Link X → Bool → Link X
link_entered objects d v = record d {
  at = d.at + (objects d.after).width d.n;
  after = d.after - 1;
  object = (objects (d.after - 1)).started d.n d.me v (d.at + (objects d.after).width d.n);
}

abbrev pub handed_by : {X : Type 0} → Objects X → Option Verdict → Link X → Link X
handed_by objects None d = d
handed_by objects (Some (Commit v)) d = d
handed_by objects (Some (Adopt v)) d = if d.after == 0 then d else link_entered objects d v

-- a process that adopts a value goes on, where there is a next object
abbrev pub link_handed : {X : Type 0} → Objects X → Link X → Link X
link_handed objects d = handed_by objects ((objects d.after).output d.object) d

-- the next step is that in the object
abbrev pub chain_op : {X : Type 0} → (X → ℕ → Option Op) → Link X → ℕ → Option Op
chain_op op d word = op d.object word

-- what the process holds after a step that found this number
abbrev pub chain_fed : {X : Type 0} → Objects X → (X → ℕ → ℕ → X) → Link X → ℕ → ℕ → Link X
chain_fed objects fed d got word = link_handed objects (record d { object = fed d.object got word })

abbrev pub value_told : Option Verdict → Option Bool
value_told None = None
value_told (Some verdict) = Some (value_of verdict)

abbrev pub chain_started : {X : Type 0} → Objects X → ℕ → ℕ → ℕ → Bool → ℕ → Link X
chain_started objects top n me v at = record {
  n = n;
  me = me;
  at = at;
  input = v;
  after = top;
  object = (objects top).started n me v at;
}

-- d is a local state of process me of n in a chain of top + 1 objects, over words from at on
pub record ChainBelongs {X : Type 0} (objects : Objects X) (top n me at : ℕ) (d : Link X) :
    Type 0 where
  pub n_is : d.n ≡ n
  pub me_is : d.me ≡ me
  pub below : me < n
  pub few : n ≤ MOST_PROCESSES
  pub within : d.after ≤ top
  -- the words of this object and of those after it end where the chain's words end
  pub place : d.at + span objects n d.after ≡ at + span objects n top
  pub object : (objects d.after).Belongs n me d.at d.object

-- a process went from object k to the next, whose input is what the object k gave it
pub record Passed {X : Type 0} (objects : Objects X) (visits : ℕ → ℕ → Option X) (p k : ℕ) :
    Type 0 where
  pub before : X
  pub next : X
  pub before_is : visits k p ≡ Some before
  pub next_is : visits (k - 1) p ≡ Some next
  pub handed : (objects k).output before ≡ Some (Adopt ((objects (k - 1)).input next))

-- the way of a process through the chain: visits gives the last local state that it had in each
-- object
pub record Walk {X : Type 0} (objects : Objects X) (top n at : ℕ) (visits : ℕ → ℕ → Option X)
    (p : ℕ) (d : Link X) : Type 0 where
  pub belongs : ChainBelongs objects top n p at d
  pub here : visits d.after p ≡ Some d.object
  pub ahead : (k : ℕ) → k < d.after → visits k p ≡ None
  pub first : (x : X) → visits top p ≡ Some x → (objects top).input x ≡ d.input
  pub passed : (k : ℕ) → d.after < k → k ≤ top → Passed objects visits p k

-- a process stays in an object that adopted only at the end
abbrev pub Rests : {X : Type 0} → Objects X → Link X → Type 0
Rests objects d = (v : Bool) → (objects d.after).output d.object ≡ Some (Adopt v) → d.after ≡ 0

-- what the words and the local states of a chain always keep
pub record ChainKeeps {X : Type 0} (objects : Objects X) (top n at : ℕ) (words : ℕ → ℕ)
    (locals : ℕ → Option (Link X)) : Type 0 where
  -- of each object, the last local states that processes had there
  pub visits : ℕ → ℕ → Option X
  -- each object keeps what it keeps, at its place
  pub kept : (k r : ℕ) → k ≤ top → r + span objects n k ≡ at + span objects n top
      → (objects k).Keeps n r words (visits k)
  pub walks : (p : ℕ) (d : Link X) → locals p ≡ Some d → Walk objects top n at visits p d
  pub rests : (p : ℕ) (d : Link X) → locals p ≡ Some d → Rests objects d
  pub absent : (p k : ℕ) → locals p ≡ None → visits k p ≡ None

-- a chain of top + 1 objects as a protocol, whose output is the value of the last verdict
abbrev pub chain_protocol : {X : Type 0} → Objects X → ℕ → Protocol (Link X) Bool Bool
chain_protocol objects top = record {
  width = λ n. span objects n top;
  steps = λ n. steps_from objects n top;
  started = chain_started objects top;
  input = λ d. d.input;
  has_begun = λ d. if d.after == top then (objects d.after).has_begun d.object else true;
  output = λ d. value_told ((objects d.after).output d.object);
  wants_word = λ d. (objects d.after).wants_word d.object;
  left = λ d. (objects d.after).left d.object + steps_after objects d.n d.after;
  Belongs = ChainBelongs objects top;
  Keeps = ChainKeeps objects top;
}
