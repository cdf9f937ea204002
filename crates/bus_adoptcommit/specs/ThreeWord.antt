-- Three words: two that say which values were brought, and one proposal. One process, as a local
-- state and its steps.
use Rattle.std.specs.Prelude.{ℕ, ◌+◌, Bool, false, not, Option, Some, None, ◌==◌, if◌then◌else◌}
use Rattle.bus_register.specs.declared.kinds.Kind.{Kind}
use Rattle.bus_register.specs.declared.kinds.Kind.TheVariants.{WriteFirst as writing_first}
use Rattle.bus_register.specs.declared.kinds.Kind.TheVariants.{ReadFirst as reading_first}
use Rattle.bus_register.specs.declared.kinds.Kind.TheVariants.{WriteSecond as writing_second}
use Rattle.bus_register.specs.declared.kinds.Kind.TheVariants.{ReadSecond as reading_second}
use Rattle.bus_register.specs.declared.registers.Op.{Op}
use Rattle.bus_register.specs.declared.registers.Op.TheVariants.{Load, Store}
use Rattle.bus_register.specs.Digits.{digit}
use Rattle.bus_adoptcommit.specs.declared.progress.Progress.{Progress}
use Rattle.bus_adoptcommit.specs.declared.progress.Progress.TheVariants.{Bring, ReadFirst, Propose}
use Rattle.bus_adoptcommit.specs.declared.progress.Progress.TheVariants.{ReadOther, Ended}
use Rattle.bus_adoptcommit.specs.declared.verdicts.Verdict.{Verdict}
use Rattle.bus_adoptcommit.specs.declared.verdicts.Verdict.TheVariants.{Commit, Adopt}

-- what a process holds, over words from `at` on: that of false and that of true, each set once its
-- value was brought, and then the proposal
pub record Local : Type 0 where
  pub at : ℕ
  pub input : Bool
  -- the value that it prefers: its own, until it finds another's proposal
  pub preference : Bool
  -- it found that nobody had brought the other value
  pub unopposed : Bool
  pub progress : Progress

-- what the next step is for
abbrev pub kind_at : Progress → Option Kind
kind_at Bring = Some writing_first
kind_at ReadFirst = Some reading_first
kind_at Propose = Some writing_second
kind_at ReadOther = Some reading_second
kind_at Ended = None

-- the next step of s, were it at this point
abbrev pub op_at : Progress → Local → Option Op
op_at Bring s = Some (Store record { 0 = s.at + digit s.input } 1)
op_at ReadFirst s = Some (Load record { 0 = s.at + 2 })
op_at Propose s = Some (Store record { 0 = s.at + 2 } (1 + digit s.preference))
op_at ReadOther s = Some (Load record { 0 = s.at + digit (not s.preference) })
op_at Ended s = None

-- the next step
abbrev pub op_of : Local → Option Op
op_of s = op_at s.progress s

-- s after it found this proposal, or none: it proposes its own value where there is none, and else
-- prefers what it found
abbrev pub local_after_look : Local → ℕ → Local
local_after_look s got =
    if got == 0 then record s { progress = Propose }
    else record s { preference = got == 2; progress = ReadOther }

-- s after a step that found this number, were it at this point
abbrev pub fed_at : Progress → Local → ℕ → Local
fed_at Bring s got = record s { progress = ReadFirst }
fed_at ReadFirst s got = local_after_look s got
fed_at Propose s got = record s { progress = ReadOther }
fed_at ReadOther s got = record s { unopposed = got == 0; progress = Ended }
fed_at Ended s got = s

-- what the process holds after a step that found this number
abbrev pub fed_of : Local → ℕ → Local
fed_of s got = fed_at s.progress s got

-- the verdict: a commit where nobody had brought the other value
abbrev pub verdict_of : Bool → Bool → Verdict
verdict_of unopposed preference = if unopposed then Commit preference else Adopt preference

-- the output of s, were it at this point
abbrev pub output_at : Progress → Local → Option Verdict
output_at Bring s = None
output_at ReadFirst s = None
output_at Propose s = None
output_at ReadOther s = None
output_at Ended s = Some (verdict_of s.unopposed s.preference)

-- the output
abbrev pub output_of : Local → Option Verdict
output_of s = output_at s.progress s

-- before the first step
abbrev pub start_of : ℕ → ℕ → Bool → ℕ → Local
start_of n me input at = record {
  at = at;
  input = input;
  preference = input;
  unopposed = false;
  progress = Bring;
}

-- how many of the four steps lie behind a process, taken or passed over
abbrev pub behind : Progress → ℕ
behind Bring = 0
behind ReadFirst = 1
behind Propose = 2
behind ReadOther = 3
behind Ended = 4
