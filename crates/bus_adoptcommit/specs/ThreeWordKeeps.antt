-- What the words and the local states of three words always keep. No clause speaks of time: it says
-- which words and local states can stand together.
use Rattle.std.specs.Prelude.{◌≡◌, ℕ, ◌+◌, ◌-◌, ◌<◌, ◌≤◌, Bool, true, false, Option, Some, ◌⊎◌}
use Rattle.std.specs.Prelude.{nat_lt}
use Rattle.bus_register.specs.Protocol.{Protocol}
use Rattle.bus_register.specs.Digits.{digit}
use Rattle.bus_adoptcommit.specs.declared.verdicts.Verdict.{Verdict}
use Rattle.bus_adoptcommit.specs.ThreeWord.{Local, start_of, behind, output_of}

-- s is a local state of one of n processes, over the words from at on
pub record Belongs (n me at : ℕ) (s : Local) : Type 0 where
  pub at_is : s.at ≡ at
  -- until it finds another's proposal, it prefers its own input
  pub own : behind s.progress ≤ 2 → s.preference ≡ s.input

-- it has taken its first step
abbrev pub HasBegun : Local → Type 0
HasBegun s = 0 < behind s.progress

-- it has looked at the proposal, so that its preference stands
abbrev pub HasLooked : Local → Type 0
HasLooked s = 1 < behind s.progress

-- it is past its own proposal, or found another's
abbrev pub HasProposed : Local → Type 0
HasProposed s = 2 < behind s.progress

abbrev pub HasEnded : Local → Type 0
HasEnded s = 3 < behind s.progress

-- it has ended with a commit
abbrev pub HasCommitted : Local → Type 0
HasCommitted s = HasEnded s × (s.unopposed ≡ true)

-- a process has begun with this input
pub record IsBrought (locals : ℕ → Option Local) (v : Bool) : Type 0 where
  pub by : ℕ
  pub local : Local
  pub here : locals by ≡ Some local
  pub begun : HasBegun local
  pub input : local.input ≡ v

-- a word holds the proposal of a value that was brought
pub record IsProposal (word : ℕ) (locals : ℕ → Option Local) : Type 0 where
  pub value : Bool
  pub is : word ≡ 1 + digit value
  pub brought : IsBrought locals value

pub record Keeps (n at : ℕ) (words : ℕ → ℕ) (locals : ℕ → Option Local) : Type 0 where
  pub inside : (p : ℕ) (s : Local) → locals p ≡ Some s → (p < n) × Belongs n p at s
  -- the word of a value is set exactly where the value was brought
  pub set : (p : ℕ) (s : Local) → locals p ≡ Some s → HasBegun s → 0 < words (at + digit s.input)
  pub brought : (v : Bool) → 0 < words (at + digit v) → IsBrought locals v
  -- the third word is empty, or a proposal, as it is past the step that proposes
  pub proposal : (words (at + 2) ≡ 0) ⊎ IsProposal (words (at + 2)) locals
  pub proposed : (p : ℕ) (s : Local) → locals p ≡ Some s → HasProposed s → 0 < words (at + 2)
  -- what is preferred was brought, and beside what is adopted the other value was, too
  pub preferred : (p : ℕ) (s : Local) → locals p ≡ Some s → HasBegun s
      → IsBrought locals s.preference
  pub opposed : (p : ℕ) (s : Local) → locals p ≡ Some s → HasEnded s → s.unopposed ≡ false
      → (v : Bool) → IsBrought locals v
  -- a commit stands with no other proposal, and with no process that has looked and prefers another
  -- value
  pub alone : (p : ℕ) (s : Local) → locals p ≡ Some s → HasCommitted s
      → words (at + 2) ≡ 1 + digit s.preference
  pub together : (p q : ℕ) (s t : Local) → locals p ≡ Some s → locals q ≡ Some t → HasCommitted s
      → HasLooked t → t.preference ≡ s.preference

-- three words, as a protocol
abbrev pub three_word : Protocol Local Bool Verdict
three_word = record {
  width = λ _. 3;
  steps = λ _. 4;
  started = start_of;
  input = λ s. s.input;
  has_begun = λ s. nat_lt 0 (behind s.progress);
  output = output_of;
  wants_word = λ _. false;
  left = λ s. 4 - behind s.progress;
  Belongs = Belongs;
  Keeps = Keeps;
}
