-- What the words and the local states of an election always keep, and what an election promises.
use Rattle.std.specs.Prelude.{◌≡◌, ℕ, zero, suc, ◌+◌, ◌*◌, ◌-◌, ◌/◌, ◌<◌, ◌≤◌, ◌^◌, Bool, true}
use Rattle.std.specs.Prelude.{false, Option, Some, None, if◌then◌else◌}
use Rattle.bus_register.specs.declared.limits.TheConstants.{MOST_PROCESSES}
use Rattle.bus_register.specs.Tables.{of_some}
use Rattle.bus_register.specs.Protocol.{Protocol}
use Rattle.bus_register.specs.Digits.{digit}
use Rattle.bus_ownerbits.specs.declared.stages.Stage.{Stage}
use Rattle.bus_ownerbits.specs.declared.stages.Stage.TheVariants.{Announce, Propose, Search, Alone}
use Rattle.bus_ownerbits.specs.Sizes.{bits_of, bit_at, each_bit, turns_of}
use Rattle.bus_ownerbits.specs.Election.{Decisions, Electing, fits_bits, owner_of}

-- the steps that are left, at most
abbrev pub work_at : {S : Type 0} → Decisions S → (ℕ → ℕ → ℕ) → Stage S → Electing S → ℕ
work_at D cost Announce s = 1 + s.left * each_bit cost s.rounds s.n
work_at D cost (Propose d) s = (D s.rounds).left d + s.n + (s.left - 1) * each_bit cost s.rounds s.n
work_at D cost (Search i) s = (s.n - i) + s.left * each_bit cost s.rounds s.n
work_at D cost Alone s = 0

-- only after the last bit a decision's output stands; a process searches after a bit, not the last,
-- that does not fit its candidate; where there is no bit it is alone
abbrev pub StageBelongs : {S : Type 0} → Decisions S → ℕ → ℕ → ℕ → ℕ → Stage S → Electing S → Type 0
StageBelongs D rounds n me at Announce s = Unit {0}
StageBelongs D rounds n me at (Propose d) s =
    (1 ≤ s.left) × (D rounds).Belongs n me (at + n + (s.left - 1) * (D rounds).width n) d
    × ((bit : Bool) → (D rounds).output d ≡ Some bit → s.left ≡ 1)
StageBelongs D rounds n me at (Search i) s =
    (i < n) × (fits_bits s s.candidate ≡ false) × (1 ≤ s.left) × (s.left < bits_of n)
StageBelongs D rounds n me at Alone s = s.left ≡ 0

-- s is a local state of process me of n, over words from at on
pub record ElectionBelongs {S : Type 0} (D : Decisions S) (cost : ℕ → ℕ → ℕ) (rounds n me at : ℕ)
    (s : Electing S) : Type 0 where
  pub n_is : s.n ≡ n
  pub me_is : s.me ≡ me
  pub rounds_is : s.rounds ≡ rounds
  pub at_is : s.at ≡ at
  pub below : me < n
  pub few : n ≤ MOST_PROCESSES
  pub within : s.left ≤ bits_of n
  pub stage : StageBelongs D rounds n me at s.stage s
  pub enough : work_at D cost s.stage s + 1 ≤ s.turns

-- the bit that a process saw decided
abbrev pub bit_seen : {S : Type 0} → Protocol S Bool Bool → Option S → ℕ
bit_seen P o = elim (of_some P.output o) as (λ z. ℕ) [ None ↦ 0 | Some bit ↦ digit bit ]

-- the number that m bits spell, from the highest down to the one of value 2 ^ k, as process p saw
-- them
abbrev pub spelled_of : {S : Type 0} → Protocol S Bool Bool → (ℕ → ℕ → Option S) → ℕ → ℕ → ℕ → ℕ
spelled_of P visits p zero k = 0
spelled_of P visits p (suc m) k = 2 * spelled_of P visits p m (suc k) + bit_seen P (visits k p)

-- process p has seen the bit of value 2 ^ k decided
pub record Saw {S : Type 0} (P : Protocol S Bool Bool) (visits : ℕ → ℕ → Option S) (p k : ℕ) :
    Type 0 where
  pub local : S
  pub bit : Bool
  pub here : visits k p ≡ Some local
  pub is : P.output local ≡ Some bit

-- it has seen all bits decided from the highest down to that of value 2 ^ k, and they spell this
-- number
pub record Spelled {S : Type 0} (P : Protocol S Bool Bool) (visits : ℕ → ℕ → Option S)
    (bits p k number : ℕ) : Type 0 where
  pub saw : (j : ℕ) → k ≤ j → j < bits → Saw P visits p j
  pub is : (m : ℕ) → k + m ≡ bits → number ≡ spelled_of P visits p m k

-- c is announced, and the bits of c down to that of value 2 ^ k are this number
pub record Fitting (n at : ℕ) (words : ℕ → ℕ) (k number c : ℕ) : Type 0 where
  pub below : c < n
  pub announced : words (at + c) ≡ 1
  pub fits : c / 2 ^ k ≡ number

-- where a process proposed a bit, it was the bit of an announced process that fits all bits decided
-- above
pub record Proposed {S : Type 0} (P : Protocol S Bool Bool) (visits : ℕ → ℕ → Option S) (n at : ℕ)
    (words : ℕ → ℕ) (p k : ℕ) (x : S) : Type 0 where
  pub candidate : ℕ
  pub number : ℕ
  pub spelled : Spelled P visits (bits_of n) p (suc k) number
  pub fitting : Fitting n at words (suc k) number candidate
  pub input : P.input x ≡ bit_at k candidate

-- where a process stands, where it is going through the bits
abbrev pub StageStands : {S : Type 0} → Protocol S Bool Bool → (ℕ → ℕ → Option S) → ℕ → ℕ → (ℕ → ℕ)
    → ℕ → Stage S → Electing S → Type 0
StageStands P visits n at words p Announce s =
    (s.left ≡ bits_of n) × (s.candidate ≡ p) × ((k : ℕ) → visits k p ≡ None)
StageStands P visits n at words p (Propose d) s =
    (visits (s.left - 1) p ≡ Some d) × ((k : ℕ) → k < s.left - 1 → visits k p ≡ None)
    × ((bit : Bool) → P.output d ≡ Some bit → s.left ≡ 1)
    × Fitting n at words s.left s.spelled s.candidate
StageStands P visits n at words p (Search i) s =
    ((c : ℕ) × (i ≤ c) × Fitting n at words s.left s.spelled c) × (s.spelled * 2 ^ s.left ≤ i)
    × (1 ≤ s.left) × ((k : ℕ) → k < s.left → visits k p ≡ None)
StageStands P visits n at words p Alone s = (s.left ≡ 0) × (bits_of n ≡ 0)

pub record Standing {S : Type 0} (D : Decisions S) (cost : ℕ → ℕ → ℕ) (rounds n at : ℕ)
    (words : ℕ → ℕ) (visits : ℕ → ℕ → Option S) (p : ℕ) (s : Electing S) : Type 0 where
  pub belongs : ElectionBelongs D cost rounds n p at s
  pub spelled : Spelled (D rounds) visits (bits_of n) p s.left s.spelled
  pub stage : StageStands (D rounds) visits n at words p s.stage s

abbrev pub begun_at : {S : Type 0} → Stage S → Bool
begun_at Announce = false
begun_at (Propose d) = true
begun_at (Search i) = true
begun_at Alone = true

-- the announcement of a process
abbrev pub announcement : {S : Type 0} → Option (Electing S) → ℕ
announcement None = 0
announcement (Some s) = if begun_at s.stage then 1 else 0

pub record ElectionKeeps {S : Type 0} (D : Decisions S) (cost : ℕ → ℕ → ℕ) (rounds n at : ℕ)
    (words : ℕ → ℕ) (locals : ℕ → Option (Electing S)) : Type 0 where
  -- of each bit, the last local states that processes had in its decision
  pub visits : ℕ → ℕ → Option S
  pub kept : (k : ℕ) → k < bits_of n
      → (D rounds).Keeps n (at + n + k * (D rounds).width n) words (visits k)
  pub proposed : (k p : ℕ) (x : S) → visits k p ≡ Some x
      → Proposed (D rounds) visits n at words p k x
  pub tells : (p : ℕ) → p < n → words (at + p) ≡ announcement (locals p)
  pub stands : (p : ℕ) (s : Electing S) → locals p ≡ Some s
      → Standing D cost rounds n at words visits p s
  pub absent : (p k : ℕ) → locals p ≡ None → visits k p ≡ None

abbrev pub wants_at : {S : Type 0} → Decisions S → Stage S → Electing S → Bool
wants_at D Announce s = false
wants_at D (Propose d) s = (D s.rounds).wants_word d
wants_at D (Search i) s = false
wants_at D Alone s = false

abbrev pub election_started : {S : Type 0} → (ℕ → ℕ → ℕ) → ℕ → ℕ → ℕ → ℕ → Electing S
election_started cost rounds n me at = record {
  n = n;
  me = me;
  rounds = rounds;
  at = at;
  left = bits_of n;
  spelled = 0;
  candidate = me;
  turns = turns_of cost rounds n;
  stage = Announce;
}

-- an election as a protocol, whose input is to have announced and whose output is the owner
abbrev pub election_protocol : {S : Type 0} → Decisions S → (ℕ → ℕ → ℕ) → ℕ
    → Protocol (Electing S) (Unit {0}) ℕ
election_protocol D cost rounds = record {
  width = λ n. n + bits_of n * (D rounds).width n;
  steps = λ n. 1 + bits_of n * each_bit cost rounds n;
  started = λ n me v at. election_started cost rounds n me at;
  input = λ s. tt;
  has_begun = λ s. begun_at s.stage;
  output = owner_of D;
  wants_word = λ s. wants_at D s.stage s;
  left = λ s. s.turns - 1;
  Belongs = ElectionBelongs D cost rounds;
  Keeps = ElectionKeeps D cost rounds;
}
