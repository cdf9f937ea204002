-- An input has one answer.
use Rattle.std.proofs.Common.{◌≡◌, ℕ, Bool, List, Option, Result, Ok, Err, sym, ap, ◌∙◌}
use Rattle.std.specs.Prelude.{MatchResult}
use Rattle.bus_adoptcommit.specs.declared.verdicts.Verdict.{Verdict}
use Rattle.bus_adoptcommit.specs.Plays.{IsPlay}
use Rattle.bus_adoptcommit.specs.TwoCollect.{op_of, fed_of}
use Rattle.bus_adoptcommit.specs.TwoCollectKeeps.{two_collect}
use Rattle.bus_script.specs.declared.answers.Outcome.{Outcome}
use Rattle.bus_script.specs.declared.answers.Outcome.TheVariants.{Done, Refused}
use Rattle.bus_ratify.specs.declared.refusals.Refusal.{Refusal}
use Rattle.bus_ratify.specs.Answers.{IsPlayed}
use Rattle.bus_ratify.specs.Scripts.{RatifyScript}
use Rattle.bus_ratify.specs.Text.{verdict_text, refusal_text}

-- a schedule has one play of two collects
abbrev OnePlay : Type 0
OnePlay =
    (given : List Bool) (schedule : List ℕ) (outs others : List (Option Verdict))
    → IsPlay (λ s word. op_of s) (λ s got word. fed_of s got) two_collect given schedule outs
    → IsPlay (λ s word. op_of s) (λ s got word. fed_of s got) two_collect given schedule others
    → outs ≡ others

-- what answers a script, or a refusal
abbrev pub Answers : Result RatifyScript Refusal → Outcome → List ℕ → Type 0
Answers said outcome text = MatchResult said
    (λ script.
    (outcome ≡ Done) × (verdicts : List (Option Verdict)) × IsPlayed script verdicts
    × (text ≡ verdict_text verdicts))
    (λ refusal. (outcome ≡ Refused) × (text ≡ refusal_text refusal))

pub one_answer : OnePlay
    → (said : Result RatifyScript Refusal) (outcome other : Outcome) (text another : List ℕ)
    → Answers said outcome text → Answers said other another → (outcome ≡ other) × (text ≡ another)
one_answer one (Ok script) outcome other text another h k = (
  h.0 ∙ sym k.0,
  h.3 ∙ ap verdict_text (one script.inputs script.schedule h.1 k.1 h.2.play k.2.play) ∙ sym k.3,
)
one_answer one (Err refusal) outcome other text another h k = (h.0 ∙ sym k.0, h.1 ∙ sym k.1)
