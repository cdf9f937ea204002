-- What the words and the local states of two collects always keep. No clause speaks of time: two
-- processes are compared by how far each has come.
use Rattle.std.specs.Prelude.{◌≡◌, ℕ, ◌+◌, ◌*◌, ◌-◌, ◌<◌, ◌≤◌, Bool, false, Option, Some, None}
use Rattle.std.specs.Prelude.{nat_lt, if◌then◌else◌, ◌⊎◌}
use Rattle.bus_register.specs.Protocol.{Protocol}
use Rattle.bus_register.specs.Digits.{digit}
use Rattle.bus_adoptcommit.specs.declared.verdicts.Verdict.{Verdict}
use Rattle.bus_adoptcommit.specs.TwoCollect.{Local, PhaseFits, start_of, taken_at, output_of}

-- s is a local state of process me of n, over the words from at on
pub record Belongs (n me at : ℕ) (s : Local) : Type 0 where
  pub n_is : s.n ≡ n
  pub me_is : s.me ≡ me
  pub at_is : s.at ≡ at
  pub below : me < n
  pub fits : PhaseFits n s.phase

-- how far a process has come, and what it saw, in numbers: taken steps, its input, and 1 for what
-- is so
pub record Mark : Type 0 where
  pub taken : ℕ
  pub value : ℕ
  pub agreed : ℕ
  pub commit : ℕ
  pub only : ℕ

-- 0 for no commit, else 1 more than its value
abbrev pub commit_number : Option Bool → ℕ
commit_number None = 0
commit_number (Some v) = 1 + digit v

-- the mark of a local state
abbrev pub mark_of : Local → Mark
mark_of s = record {
  taken = taken_at s.n s.phase;
  value = digit s.input;
  agreed = digit s.agreed;
  commit = commit_number s.commit;
  only = digit s.only_commits;
}

-- a process that is not there yet has taken no step
abbrev pub mark : Option Local → Mark
mark None = record { taken = 0; value = 0; agreed = 1; commit = 0; only = 1 }
mark (Some s) = mark_of s

-- the word of a process's proposal
unfoldable pub proposal_word : Mark → ℕ
proposal_word m = if nat_lt 0 m.taken then 1 + m.value else 0

-- the word of a process's verdict, one of n
unfoldable pub verdict_word : ℕ → Mark → ℕ
verdict_word n m = if nat_lt (1 + n) m.taken then 1 + 2 * m.agreed + m.value else 0

-- two processes have stored different proposals
pub record Split (n : ℕ) (m : ℕ → Mark) : Type 0 where
  pub low : ℕ
  pub high : ℕ
  pub low_below : low < n
  pub high_below : high < n
  pub low_is : proposal_word (m low) ≡ 1
  pub high_is : proposal_word (m high) ≡ 2

-- a process has stored a commit of v
pub record Committed (n : ℕ) (m : ℕ → Mark) (v : ℕ) : Type 0 where
  pub by : ℕ
  pub below : by < n
  pub is : verdict_word n (m by) ≡ 3 + v

-- a process with this mark has read the proposal of q
abbrev pub HasReadFirst : ℕ → Mark → Type 0
HasReadFirst q m = 1 + q < m.taken

-- a process with this mark, one of n, has read the verdict of q
abbrev pub HasReadSecond : ℕ → ℕ → Mark → Type 0
HasReadSecond n q m = 2 + n + q < m.taken

-- two processes that read each other's proposal and still agree have the same input
abbrev pub AgreeAlike : ℕ → ℕ → ℕ → Mark → Mark → Type 0
AgreeAlike n p q x y =
    p < n → q < n → HasReadFirst q x → HasReadFirst p y → x.agreed ≡ 1 → y.agreed ≡ 1
    → x.value ≡ y.value

-- of two processes that read each other's verdict, where p stored a commit and saw nothing but
-- commits, q saw a commit or stored one
abbrev pub MeetsCommit : ℕ → ℕ → ℕ → Mark → Mark → Type 0
MeetsCommit n p q x y =
    p < n → q < n → HasReadSecond n q x → HasReadSecond n p y → x.agreed ≡ 1 → x.only ≡ 1
    → (0 < y.commit) ⊎ (y.agreed ≡ 1)

-- a process that read its own verdict saw what it is
abbrev pub SeesOwn : ℕ → ℕ → Mark → Type 0
SeesOwn n p x =
    p < n → HasReadSecond n p x → (x.agreed ≡ 1 → 0 < x.commit) × (x.agreed ≡ 0 → x.only ≡ 0)

-- what holds of the marks of n processes
pub record Holds (n : ℕ) (m : ℕ → Mark) : Type 0 where
  -- the numbers are digits, and a process takes no more than 2n + 2 steps
  pub bounded : (p : ℕ) → (m p).taken ≤ 2 + n + n
  pub value_bit : (p : ℕ) → (m p).value ≤ 1
  pub agreed_bit : (p : ℕ) → (m p).agreed ≤ 1
  pub only_bit : (p : ℕ) → (m p).only ≤ 1
  -- two processes, compared
  pub alike : (p q : ℕ) → AgreeAlike n p q (m p) (m q)
  pub meets : (p q : ℕ) → MeetsCommit n p q (m p) (m q)
  pub own : (p : ℕ) → SeesOwn n p (m p)
  -- a commit that was seen was stored
  pub seen : (p : ℕ) (v : ℕ) → (m p).commit ≡ 1 + v → Committed n m v
  -- only where proposals differ does a process not agree, or see anything but commits
  pub differs : (p : ℕ) → (m p).agreed ≡ 0 → Split n m
  pub differed : (p : ℕ) → (m p).only ≡ 0 → Split n m

-- each word is that of its process, and the marks hold
pub record Keeps (n at : ℕ) (words : ℕ → ℕ) (locals : ℕ → Option Local) : Type 0 where
  pub inside : (p : ℕ) (s : Local) → locals p ≡ Some s → (p < n) × Belongs n p at s
  pub proposal_words : (p : ℕ) → p < n → words (at + p) ≡ proposal_word (mark (locals p))
  pub verdict_words : (p : ℕ) → p < n → words (at + n + p) ≡ verdict_word n (mark (locals p))
  pub holds : Holds n (λ p. mark (locals p))

-- two collects, as a protocol
abbrev pub two_collect : Protocol Local Bool Verdict
two_collect = record {
  width = λ n. 2 * n;
  steps = λ n. 2 * n + 2;
  started = start_of;
  input = λ s. s.input;
  has_begun = λ s. nat_lt 0 (taken_at s.n s.phase);
  output = output_of;
  wants_word = λ _. false;
  left = λ s. (2 + s.n + s.n) - taken_at s.n s.phase;
  Belongs = Belongs;
  Keeps = Keeps;
}
