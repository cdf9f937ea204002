-- What `ratify` answers to an input.
use Rattle.std.specs.Prelude.{◌≡◌, ℕ, ◌+◌, ◌*◌, ◌<◌, ◌↔◌, List, length, Option, None, MatchResult}
use Rattle.bus_adoptcommit.specs.declared.verdicts.Verdict.{Verdict}
use Rattle.bus_adoptcommit.specs.Plays.{IsPlay}
use Rattle.bus_adoptcommit.specs.Schedule.{table_of, entries, LegalThroughout}
use Rattle.bus_adoptcommit.specs.TwoCollect.{op_of, fed_of}
use Rattle.bus_adoptcommit.specs.TwoCollectKeeps.{two_collect}
use Rattle.bus_script.specs.declared.answers.Outcome.{Outcome}
use Rattle.bus_script.specs.declared.answers.Outcome.TheVariants.{Done, Refused}
use Rattle.bus_ratify.specs.Scripts.{RatifyScript, ratify_script}
use Rattle.bus_ratify.specs.Text.{verdict_text, refusal_text}

-- how many steps a process takes, of so many (Gafni 1998: two stores, and two loads for each
-- process)
abbrev pub steps_of_each : ℕ → ℕ
steps_of_each n = 2 * n + 2

-- the verdicts after the steps of a script
pub record IsPlayed (script : RatifyScript) (verdicts : List (Option Verdict)) : Type 0 where
  -- they are what two collects give out, played by the script's steps
  pub play : IsPlay (λ s word. op_of s) (λ s got word. fed_of s got) two_collect script.inputs
      script.schedule verdicts
  -- one for each process, open or not
  pub one_each : length verdicts ≡ length script.inputs
  -- just the processes that have too few steps are open
  pub left_open : (p : ℕ) → p < length script.inputs
      → (table_of verdicts p ≡ None)
      ↔ (entries script.schedule p < steps_of_each (length script.inputs))
  -- after each prefix of the schedule, the verdicts that stand are valid, convergent and coherent
  -- for the inputs that count
  pub throughout : LegalThroughout (steps_of_each (length script.inputs)) script.inputs
      script.schedule (table_of verdicts)

-- the text that answers an input: a line for each verdict, or the first refusal and nothing else
abbrev pub IsAnswer : List ℕ → Outcome → List ℕ → Type 0
IsAnswer input outcome text = MatchResult (ratify_script input)
    (λ script.
    (outcome ≡ Done) × (verdicts : List (Option Verdict)) × IsPlayed script verdicts
    × (text ≡ verdict_text verdicts))
    (λ refusal. (outcome ≡ Refused) × (text ≡ refusal_text refusal))
