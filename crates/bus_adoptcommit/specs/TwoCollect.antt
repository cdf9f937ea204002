-- Two collects (Gafni 1998): each process stores its proposal and loads all proposals, then stores
-- its verdict and loads all verdicts. One process of n, as a local state and its steps.
use Rattle.std.specs.Prelude.{ℕ, ◌+◌, ◌*◌, ◌<◌, ◌≤◌, ◌^◌, Bool, true, false, Option, Some, None}
use Rattle.std.specs.Prelude.{◌==◌, nat_lt, if◌then◌else◌}
use Rattle.bus_register.specs.declared.kinds.Kind.{Kind}
use Rattle.bus_register.specs.declared.kinds.Kind.TheVariants.{WriteFirst as writing_first}
use Rattle.bus_register.specs.declared.kinds.Kind.TheVariants.{ReadFirst as reading_first}
use Rattle.bus_register.specs.declared.kinds.Kind.TheVariants.{WriteSecond as writing_second}
use Rattle.bus_register.specs.declared.kinds.Kind.TheVariants.{ReadSecond as reading_second}
use Rattle.bus_register.specs.declared.registers.Op.{Op}
use Rattle.bus_register.specs.declared.registers.Op.TheVariants.{Load, Store}
use Rattle.bus_register.specs.Digits.{digit}
use Rattle.bus_adoptcommit.specs.declared.phases.Phase.{Phase}
use Rattle.bus_adoptcommit.specs.declared.phases.Phase.TheVariants.{WriteFirst, ReadFirst}
use Rattle.bus_adoptcommit.specs.declared.phases.Phase.TheVariants.{WriteSecond, ReadSecond, Ended}
use Rattle.bus_adoptcommit.specs.declared.verdicts.Verdict.{Verdict}
use Rattle.bus_adoptcommit.specs.declared.verdicts.Verdict.TheVariants.{Commit, Adopt}

-- what process `me` of n holds, over words from `at` on: proposals at + 0 .. at + n - 1, then
-- verdicts at + n .. at + 2n - 1
pub record Local : Type 0 where
  pub n : ℕ
  pub me : ℕ
  pub at : ℕ
  pub input : Bool
  -- every proposal that was seen is the own one
  pub agreed : Bool
  -- the value of a commit that was seen among the verdicts
  pub commit : Option Bool
  -- every verdict that was seen is a commit
  pub only_commits : Bool
  pub phase : Phase

-- the word of a proposal, as of an input: 1 or 2, so that 0 is no proposal
abbrev pub proposal_code : Bool → ℕ
proposal_code input = 1 + digit input

-- the word of a verdict: adopt 0 is 1, adopt 1 is 2, commit 0 is 3, commit 1 is 4, so that 0 is no
-- verdict
abbrev pub verdict_code : Verdict → ℕ
verdict_code (Adopt v) = 1 + digit v
verdict_code (Commit v) = 3 + digit v

-- the verdict that a word holds, if it holds one
abbrev pub verdict_in : ℕ → Option Verdict
verdict_in word =
    if word == 1 then Some (Adopt false)
    else (if word == 2 then Some (Adopt true)
    else (if word == 3 then Some (Commit false)
    else (if word == 4 then Some (Commit true) else None)))

-- the verdict that is stored: a commit if every proposal that was seen is the own one
abbrev pub first_verdict : Bool → Bool → Verdict
first_verdict agreed input = if agreed then Commit input else Adopt input

-- a number in a phase is that of one of n processes
abbrev pub PhaseFits : ℕ → Phase → Type 0
PhaseFits n WriteFirst = Unit {0}
PhaseFits n (ReadFirst of) = of < n
PhaseFits n WriteSecond = Unit {0}
PhaseFits n (ReadSecond of) = of < n
PhaseFits n Ended = Unit {0}

-- the numbers fit, so that each register has a place
pub record Sized (n me at : ℕ) (phase : Phase) : Type 0 where
  pub below : me < n
  pub room : at + 2 * n ≤ 2 ^ 64
  pub fits : PhaseFits n phase

-- what the next step is for
abbrev pub kind_at : Phase → Option Kind
kind_at WriteFirst = Some writing_first
kind_at (ReadFirst of) = Some reading_first
kind_at WriteSecond = Some writing_second
kind_at (ReadSecond of) = Some reading_second
kind_at Ended = None

-- the next step of s, were it at this phase
abbrev pub op_at : Phase → Local → Option Op
op_at WriteFirst s = Some (Store record { 0 = s.at + s.me } (proposal_code s.input))
op_at (ReadFirst of) s = Some (Load record { 0 = s.at + of })
op_at WriteSecond s =
    Some (Store record { 0 = s.at + s.n + s.me } (verdict_code (first_verdict s.agreed s.input)))
op_at (ReadSecond of) s = Some (Load record { 0 = s.at + s.n + of })
op_at Ended s = None

-- the next step
abbrev pub op_of : Local → Option Op
op_of s = op_at s.phase s

-- the phase after a proposal was read
abbrev pub after_proposal : ℕ → ℕ → Phase
after_proposal n of = if nat_lt (of + 1) n then ReadFirst (of + 1) else WriteSecond

-- the phase after a verdict was read
abbrev pub after_verdict : ℕ → ℕ → Phase
after_verdict n of = if nat_lt (of + 1) n then ReadSecond (of + 1) else Ended

-- still agreed, once this word was seen among the proposals
abbrev pub agreed_after : Bool → ℕ → Bool → Bool
agreed_after input got agreed =
    if got == 0 then agreed else (if got == proposal_code input then agreed else false)

-- the value of a commit that was seen, with one more word of the verdicts
abbrev pub commit_with : Option Verdict → Option Bool → Option Bool
commit_with None commit = commit
commit_with (Some (Adopt v)) commit = commit
commit_with (Some (Commit v)) commit = Some v

-- still nothing but commits, with one more word of the verdicts
abbrev pub only_with : Option Verdict → Bool → Bool
only_with None only = only
only_with (Some (Adopt v)) only = false
only_with (Some (Commit v)) only = only

-- s after a step that found this number, were it at this phase
abbrev pub fed_at : Phase → Local → ℕ → Local
fed_at WriteFirst s got = record s { phase = ReadFirst 0 }
fed_at (ReadFirst of) s got = record s {
  agreed = agreed_after s.input got s.agreed;
  phase = after_proposal s.n of;
}
fed_at WriteSecond s got = record s { phase = ReadSecond 0 }
fed_at (ReadSecond of) s got = record s {
  commit = commit_with (verdict_in got) s.commit;
  only_commits = only_with (verdict_in got) s.only_commits;
  phase = after_verdict s.n of;
}
fed_at Ended s got = s

-- what the process holds after a step that found this number
abbrev pub fed_of : Local → ℕ → Local
fed_of s got = fed_at s.phase s got

-- the verdict, from the commit that was seen, whether only commits were seen, and the input
abbrev pub verdict_from : Option Bool → Bool → Bool → Verdict
verdict_from None only input = Adopt input
verdict_from (Some v) only input = if only then Commit v else Adopt v

-- the output of s, were it at this phase
abbrev pub output_at : Phase → Local → Option Verdict
output_at WriteFirst s = None
output_at (ReadFirst of) s = None
output_at WriteSecond s = None
output_at (ReadSecond of) s = None
output_at Ended s = Some (verdict_from s.commit s.only_commits s.input)

-- the output
abbrev pub output_of : Local → Option Verdict
output_of s = output_at s.phase s

-- before the first step
abbrev pub start_of : ℕ → ℕ → Bool → ℕ → Local
start_of n me input at = record {
  n = n;
  me = me;
  at = at;
  input = input;
  agreed = true;
  commit = None;
  only_commits = true;
  phase = WriteFirst;
}

-- how many of its 2n + 2 steps a process has taken
abbrev pub taken_at : ℕ → Phase → ℕ
taken_at n WriteFirst = 0
taken_at n (ReadFirst of) = 1 + of
taken_at n WriteSecond = 1 + n
taken_at n (ReadSecond of) = 2 + n + of
taken_at n Ended = 2 + n + n
