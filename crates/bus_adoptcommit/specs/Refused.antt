-- Two processes, of which adopt-commit or a play refuses what they gave.
use Rattle.std.specs.Prelude.{ℕ, Bool, true, false, not, List, [], ◌∷◌, Option, Some, option_map}
use Rattle.bus_register.specs.declared.kinds.Kind.TheVariants as kind
use Rattle.bus_register.specs.declared.registers.Op.{Op}
use Rattle.bus_register.specs.declared.registers.Op.TheVariants.{Load, Store, Add, Cas}
use Rattle.bus_register.specs.declared.registers.Reg.{Reg}
use Rattle.bus_register.specs.Protocol.{Protocol}
use Rattle.bus_adoptcommit.specs.declared.progress.Progress.{Progress}
use Rattle.bus_adoptcommit.specs.declared.progress.Progress.TheVariants.{Bring, ReadFirst, Propose}
use Rattle.bus_adoptcommit.specs.declared.progress.Progress.TheVariants.{ReadOther, Ended}
use Rattle.bus_adoptcommit.specs.declared.verdicts.Verdict.{Verdict}
use Rattle.bus_adoptcommit.specs.declared.verdicts.Verdict.TheVariants.{Adopt}
use Rattle.bus_adoptcommit.specs.Agreement.{value_of, IsConvergent, IsCoherent}
use Rattle.bus_adoptcommit.specs.Kinds.{IsNamedFor, ComesAfter}
use Rattle.bus_adoptcommit.specs.Plays.{IsPlay}
use Rattle.bus_adoptcommit.specs.Schedule.{table_of, entered_input}
use Rattle.bus_adoptcommit.specs.ThreeWord.{Local, op_at, fed_of, output_of}
use Rattle.bus_adoptcommit.specs.ThreeWordKeeps.{three_word}

-- what two processes have, each something
abbrev pub of_two : {A : Type 0} → A → A → ℕ → Option A
of_two first second = table_of (Some first ∷ Some second ∷ [])

-- each takes all its steps, of two collects or of three words, and they take them in turn
abbrev pub taking_turns : List ℕ
taking_turns = 0 ∷ 1 ∷ 0 ∷ 1 ∷ 0 ∷ 1 ∷ 0 ∷ 1 ∷ 0 ∷ 1 ∷ 0 ∷ 1 ∷ []

-- the first takes its four steps of three words, and then the second its three
abbrev pub one_after_another : List ℕ
one_after_another = 0 ∷ 0 ∷ 0 ∷ 0 ∷ 1 ∷ 1 ∷ 1 ∷ []

-- ── three words, played ──
abbrev pub PlaysThreeWords : (Local → Option Op) → (Local → ℕ → Local) → Protocol Local Bool Verdict
    → List Bool → List ℕ → List (Option Verdict) → Type 0
PlaysThreeWords op fed P given schedule outs =
    IsPlay (λ s word. op s) (λ s got word. fed s got) P given schedule outs

-- they play just that, and one output has another value than a commit
pub record PlaysIncoherently (op : Local → Option Op) (fed : Local → ℕ → Local)
    (P : Protocol Local Bool Verdict) (given : List Bool) (schedule : List ℕ)
    (outs : List (Option Verdict)) : Type 0 where
  pub plays : PlaysThreeWords op fed P given schedule outs
  pub refused : ¬ IsCoherent (table_of outs)

-- they play just that, and all inputs that count agree where an output is no commit of them
pub record PlaysUnconverged (op : Local → Option Op) (fed : Local → ℕ → Local)
    (P : Protocol Local Bool Verdict) (given : List Bool) (schedule : List ℕ)
    (outs : List (Option Verdict)) : Type 0 where
  pub plays : PlaysThreeWords op fed P given schedule outs
  pub refused : ¬ IsConvergent (entered_input given schedule) (table_of outs)

-- ── wrong processes of three words ──
-- it goes on preferring its own input, whatever it found
abbrev pub keeping_own : Local → ℕ → Local
keeping_own s got = record (fed_of s got) { preference = s.input }

-- it commits, whatever it found of the other value
abbrev pub committing_in_spite : Local → ℕ → Local
committing_in_spite s got = record (fed_of s got) { unopposed = true }

-- where it finds no proposal, it goes on without one
abbrev pub past_proposing : Progress → Progress
past_proposing Bring = Bring
past_proposing ReadFirst = ReadFirst
past_proposing Propose = ReadOther
past_proposing ReadOther = ReadOther
past_proposing Ended = Ended

abbrev pub proposing_nothing : Local → ℕ → Local
proposing_nothing s got = let t = fed_of s got in record t { progress = past_proposing t.progress }

-- at the end it loads the word of the value that it prefers, in place of the other one's
abbrev pub reading_own_at : Progress → Local → Option Op
reading_own_at Bring s = op_at Bring s
reading_own_at ReadFirst s = op_at ReadFirst s
reading_own_at Propose s = op_at Propose s
reading_own_at ReadOther s = op_at ReadOther (record s { preference = not s.preference })
reading_own_at Ended s = op_at Ended s

abbrev pub reading_own : Local → Option Op
reading_own s = reading_own_at s.progress s

-- each that has ended adopts
abbrev pub adopting : Protocol Local Bool Verdict
adopting = record three_word { output = λ s. option_map (λ d. Adopt (value_of d)) (output_of s) }

-- ── wrong names ──
-- no step of a ratifier is named thus
pub record RefusesNames : Type 0 where
  -- a read that adds, or exchanges, were it to leave the word as it was; or one that stores
  pub added : (at : Reg) (x : ℕ) (begun : Bool) → ¬ IsNamedFor kind.ReadFirst (Add at x) begun
  pub exchanged : (at : Reg) (x y : ℕ) (begun : Bool)
      → ¬ IsNamedFor kind.ReadSecond (Cas at x y) begun
  pub stored : (at : Reg) (x : ℕ) (begun : Bool) → ¬ IsNamedFor kind.ReadSecond (Store at x) begun
  -- a verdict's store that loads
  pub loaded : (at : Reg) (begun : Bool) → ¬ IsNamedFor kind.WriteSecond (Load at) begun
  -- a proposal that is stored after the first step, and a first step that reads
  pub proposed_late : (o : Op) → ¬ IsNamedFor kind.WriteFirst o true
  pub read_first : (o : Op) → ¬ IsNamedFor kind.ReadFirst o false

-- ── wrong orders ──
-- no kind of a ratifier's next step comes so after the kind before it
pub record RefusesOrders : Type 0 where
  -- a verdict that is stored, or read, before any proposal was read
  pub stored_unread : ¬ ComesAfter kind.WriteFirst kind.WriteSecond
  pub read_at_once : ¬ ComesAfter kind.WriteFirst kind.ReadSecond
  -- a verdict that is stored twice, or once verdicts are read
  pub stored_twice : ¬ ComesAfter kind.WriteSecond kind.WriteSecond
  pub stored_late : ¬ ComesAfter kind.ReadSecond kind.WriteSecond
  -- a proposal that is read once the verdict is stored, or verdicts are read
  pub looked_back : ¬ ComesAfter kind.WriteSecond kind.ReadFirst
  pub looked_late : ¬ ComesAfter kind.ReadSecond kind.ReadFirst
