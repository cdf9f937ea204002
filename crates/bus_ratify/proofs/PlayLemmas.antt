-- What a script that is read says of its steps, and what the verdicts after them say.
use Rattle.std.proofs.Common.{◌≡◌, ℕ, zero, suc, ◌<◌, Bool, true, false, cond, ltb, ◌&&◌, List, []}
use Rattle.std.proofs.Common.{◌∷◌, ◌++◌, length, Option, Some, None, Result, Ok, Err, refl, sym}
use Rattle.std.proofs.Common.{ap, subst, ◌∙◌, inl, inr, arith}
use Rattle.std.specs.Prelude.{IsSome}
use Rattle.std.specs.List.{All, list_all}
use Rattle.std.proofs.lemmas.Bool.{and_parts, cases_lt, ltb-true}
use Rattle.std.proofs.lemmas.List.Folds.{list_all-append}
use Rattle.bus_adoptcommit.specs.declared.verdicts.Verdict.{Verdict}
use Rattle.bus_adoptcommit.specs.Plays.{Verdicts}
use Rattle.bus_adoptcommit.specs.Schedule.{table_of, entries}
use Rattle.bus_adoptcommit.specs.TwoCollect.{op_of, fed_of}
use Rattle.bus_adoptcommit.specs.TwoCollectKeeps.{two_collect}
use Rattle.bus_adoptcommit.specs.Private.TwoCollectLaws.{two_collect_exact}
use Rattle.bus_ratify.specs.declared.refusals.Refusal.{Refusal}
use Rattle.bus_script.specs.Grammar.{script_lines}
use Rattle.bus_ratify.specs.Scripts.{RatifyScript, steps_among, then_steps, schedule_of}
use Rattle.bus_ratify.specs.Scripts.{with_schedule, script_behind, script_of, ratify_script}
use Rattle.bus_ratify.specs.Scripts.{inputs_of, steps_of}
use Rattle.bus_ratify.specs.Answers.{IsPlayed, steps_of_each}

-- ---- each step of a script has a process

abbrev all_known : ℕ → List ℕ → Bool
all_known n steps = list_all (λ p. ltb p n) steps

ok_is : {A : Type 0} (x y : A) → (let r : Result A Refusal = Ok x in r) ≡ Ok y → x ≡ y
ok_is x y e = cc

-- a test that was passed
passed : {A : Type 0} (b : Bool) (x y : A) (refusal : Refusal) → cond b (Ok x) (Err refusal) ≡ Ok y
    → (b ≡ true) × (x ≡ y)
passed true x y refusal e = (refl, cc)
passed false x y refusal e = absurd cc

steps_known : (n k : ℕ) (said : Option (List ℕ)) (steps : List ℕ) → steps_among n k said ≡ Ok steps
    → all_known n steps ≡ true
steps_known n k None steps e = absurd cc
steps_known n k (Some given) steps e =
    let p = passed (all_known n given) given steps _ e in ap (all_known n) (sym p.1) ∙ p.0

both_known : (n : ℕ) (a b : Result (List ℕ) Refusal) (steps : List ℕ)
    → ((xs : List ℕ) → a ≡ Ok xs → all_known n xs ≡ true)
    → ((ys : List ℕ) → b ≡ Ok ys → all_known n ys ≡ true)
    → then_steps a b ≡ Ok steps → all_known n steps ≡ true
both_known n (Err r) b steps front back e = absurd cc
both_known n (Ok xs) (Err r) steps front back e = absurd cc
both_known n (Ok xs) (Ok ys) steps front back e =
    ap (all_known n) (sym (ok_is (xs ++ ys) steps e)) ∙ list_all-append (λ p. ltb p n) xs ys
    ∙ ap (λ b. b && all_known n ys) (front xs refl) ∙ back ys refl

schedule_known : (n : ℕ) (lines : List (ℕ × List ℕ)) (steps : List ℕ)
    → schedule_of n lines ≡ Ok steps → all_known n steps ≡ true
schedule_known n [] steps e = ap (all_known n) (sym (ok_is [] steps e))
schedule_known n (line ∷ lines) steps e =
    both_known n (steps_among n line.0 (steps_of line.1)) (schedule_of n lines) steps
    (steps_known n line.0 (steps_of line.1)) (schedule_known n lines) e

with_known : (inputs : List Bool) (said : Result (List ℕ) Refusal) (script : RatifyScript)
    → ((steps : List ℕ) → said ≡ Ok steps → all_known (length inputs) steps ≡ true)
    → with_schedule inputs said ≡ Ok script
    → all_known (length script.inputs) script.schedule ≡ true
with_known inputs (Err r) script h e = absurd cc
with_known inputs (Ok steps) script h e =
    let is =
    ok_is (let s : RatifyScript = record { inputs = inputs; schedule = steps } in s) script e in
    subst (λ (s : RatifyScript). all_known (length s.inputs) s.schedule ≡ true) is (h steps refl)

behind_known :
    (k : ℕ) (inputs : Option (List Bool)) (lines : List (ℕ × List ℕ)) (script : RatifyScript)
    → script_behind k inputs lines ≡ Ok script
    → all_known (length script.inputs) script.schedule ≡ true
behind_known k None lines script e = absurd cc
behind_known k (Some inputs) lines script e = with_known inputs (schedule_of (length inputs) lines)
    script (schedule_known (length inputs) lines) e

lines_known : (lines : List (ℕ × List ℕ)) (script : RatifyScript) → script_of lines ≡ Ok script
    → all_known (length script.inputs) script.schedule ≡ true
lines_known [] script e = absurd cc
lines_known (line ∷ lines) script e = behind_known line.0 (inputs_of line.1) lines script e

all_below : (n : ℕ) (xs : List ℕ) → all_known n xs ≡ true → All (λ p. p < n) xs
all_below n [] e k d lt = absurd (omega arith)
all_below n (x ∷ xs) e zero d lt = ltb-true x n (and_parts (ltb x n) (all_known n xs) e).0
all_below n (x ∷ xs) e (suc k) d lt =
    all_below n xs (and_parts (ltb x n) (all_known n xs) e).1 k d (omega arith)

pub script_known : (bytes : List ℕ) (script : RatifyScript) → ratify_script bytes ≡ Ok script
    → All (λ p. p < length script.inputs) script.schedule
script_known bytes script e =
    all_below (length script.inputs) script.schedule (lines_known (script_lines bytes) script e)

-- ---- verdicts

none_is_open : (o : Option Verdict) → IsSome o → o ≡ None → ⊥
none_is_open None some e = absurd cc
none_is_open (Some d) some e = absurd cc

pub played : (inputs : List Bool) (schedule : List ℕ) (verdicts : List (Option Verdict))
    → Verdicts (λ s word. op_of s) (λ s got word. fed_of s got) two_collect inputs schedule verdicts
    → IsPlayed (record { inputs = inputs; schedule = schedule }) verdicts
played inputs schedule verdicts h =
    let n = length inputs in
    record {
      play = h.play;
      one_each = h.one_each;
      left_open = λ p lt. (
        (λ e. elim (cases_lt (entries schedule p) (steps_of_each n)) [
          | inl few ↦ few
          | inr all ↦ absurd (none_is_open (table_of verdicts p) (h.stands p lt all) e)
        ]),
        (λ few. h.stays_open two_collect_exact p few),
      );
      throughout = h.throughout;
    }
