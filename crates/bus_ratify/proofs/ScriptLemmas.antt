-- Scripts are what they spell, both ways.
use Rattle.std.proofs.Common.{◌≡◌, ℕ, ◌<◌, Bool, true, false, cond, ltb, List, [], ◌∷◌, ◌++◌}
use Rattle.std.proofs.Common.{length, Option, Some, None, Result, Ok, Err, refl, sym, ap, ◌∙◌}
use Rattle.std.specs.List.{AllByRecursion, list_all}
use Rattle.std.proofs.lemmas.Bool.{and_parts, ltb-true, lt-ltb}
use Rattle.bus_ratify.specs.declared.refusals.LineFault.TheVariants.{NoSuchProcess}
use Rattle.bus_ratify.specs.declared.refusals.Refusal.{Refusal}
use Rattle.bus_ratify.specs.Scripts.{RatifyScript, inputs_of, steps_of, refused_at, steps_among}
use Rattle.bus_ratify.specs.Scripts.{then_steps, schedule_of, with_schedule, script_behind}
use Rattle.bus_ratify.specs.Scripts.{script_of}
use Rattle.bus_ratify.specs.Lines.{AreSteps, IsScript}
use Rattle.bus_ratify.proofs.LineLemmas.{inputs_spelled, inputs_read, steps_spelled, steps_read}

all_below : (n : ℕ) (steps : List ℕ) → list_all (λ p. ltb p n) steps ≡ true
    → AllByRecursion (λ p. p < n) steps
all_below n [] e = tt
all_below n (p ∷ steps) e =
    let k = and_parts (ltb p n) (list_all (λ q. ltb q n) steps) e in
    (ltb-true p n k.0, all_below n steps k.1)

below_all : (n : ℕ) (steps : List ℕ) → AllByRecursion (λ p. p < n) steps
    → list_all (λ p. ltb p n) steps ≡ true
below_all n [] h = refl
below_all n (p ∷ steps) h = rw (lt-ltb p n h.0, below_all n steps h.1) refl

passes : (b : Bool) (xs ys : List ℕ) (refusal : Refusal) → cond b (Ok xs) (Err refusal) ≡ Ok ys
    → (b ≡ true) × (xs ≡ ys)
passes true xs ys refusal e = (refl, cc)
passes false xs ys refusal e = absurd cc

among : (n number : ℕ) (o : Option (List ℕ)) (steps : List ℕ) → steps_among n number o ≡ Ok steps
    → (o ≡ Some steps) × AllByRecursion (λ p. p < n) steps
among n number None steps e = absurd cc
among n number (Some given) steps e =
    let k =
    passes (list_all (λ p. ltb p n) given) given steps (refused_at number NoSuchProcess) e in (
      ap (λ (l : List ℕ). Some l) k.1,
      all_below n steps (ap (list_all (λ p. ltb p n)) (sym k.1) ∙ k.0),
    )

both : (a b : Result (List ℕ) Refusal) (steps : List ℕ) → then_steps a b ≡ Ok steps
    → (front back : List ℕ) × (a ≡ Ok front) × (b ≡ Ok back) × (steps ≡ front ++ back)
both (Err r) b steps e = absurd cc
both (Ok xs) (Err r) steps e = absurd cc
both (Ok xs) (Ok ys) steps e = (xs, ys, refl, refl, cc)

steps_told : (n : ℕ) (lines : List (ℕ × List ℕ)) (schedule : List ℕ)
    → schedule_of n lines ≡ Ok schedule → AreSteps n lines schedule
steps_told n [] schedule e = cc
steps_told n (line ∷ lines) schedule e =
    let k = both (steps_among n line.0 (steps_of line.1)) (schedule_of n lines) schedule e in
    let one = among n line.0 (steps_of line.1) k.0 k.2 in
    (k.0, k.1, steps_spelled line.1 k.0 one.0, one.1, steps_told n lines k.1 k.3, k.4)

steps_taken : (n : ℕ) (lines : List (ℕ × List ℕ)) (schedule : List ℕ) → AreSteps n lines schedule
    → schedule_of n lines ≡ Ok schedule
steps_taken n [] schedule h = ap (λ (l : List ℕ). Ok l) (sym h)
steps_taken n (line ∷ lines) schedule h =
    let first : steps_among n line.0 (steps_of line.1) ≡ Ok h.0 =
    ap (steps_among n line.0) (steps_read line.1 h.0 h.2)
    ∙ ap (λ b. cond b (Ok h.0) (Err (refused_at line.0 NoSuchProcess))) (below_all n h.0 h.3) in
    ap (λ r. then_steps r (schedule_of n lines)) first
    ∙ ap (then_steps (Ok h.0)) (steps_taken n lines h.1 h.4) ∙ ap (λ (l : List ℕ). Ok l) (sym h.5)

with_is : (inputs : List Bool) (said : Result (List ℕ) Refusal) (script : RatifyScript)
    → with_schedule inputs said ≡ Ok script → (inputs ≡ script.inputs) × (said ≡ Ok script.schedule)
with_is inputs (Err r) script e = absurd cc
with_is inputs (Ok schedule) script e =
    let made : RatifyScript = record { inputs = inputs; schedule = schedule } in
    let same : made ≡ script = cc in
    (ap (λ (s : RatifyScript). s.inputs) same, ap (λ (s : RatifyScript). Ok s.schedule) same)

behind_is :
    (number : ℕ) (o : Option (List Bool)) (lines : List (ℕ × List ℕ)) (script : RatifyScript)
    → script_behind number o lines ≡ Ok script
    → (o ≡ Some script.inputs) × (schedule_of (length script.inputs) lines ≡ Ok script.schedule)
behind_is number None lines script e = absurd cc
behind_is number (Some inputs) lines script e =
    let k = with_is inputs (schedule_of (length inputs) lines) script e in (
      ap (λ (l : List Bool). Some l) k.0,
      ap (λ (l : List Bool). schedule_of (length l) lines) (sym k.0) ∙ k.1,
    )

pub script_told : (lines : List (ℕ × List ℕ)) (script : RatifyScript) → script_of lines ≡ Ok script
    → IsScript lines script
script_told [] script e = absurd cc
script_told (line ∷ lines) script e =
    let k = behind_is line.0 (inputs_of line.1) lines script e in (
      inputs_spelled line.1 script.inputs k.0,
      steps_told (length script.inputs) lines script.schedule k.1,
    )

pub script_taken : (lines : List (ℕ × List ℕ)) (script : RatifyScript) → IsScript lines script
    → script_of lines ≡ Ok script
script_taken [] script h = absurd h
script_taken (line ∷ lines) script h =
    ap (λ o. script_behind line.0 o lines) (inputs_read line.1 script.inputs h.0)
    ∙ ap (with_schedule script.inputs)
    (steps_taken (length script.inputs) lines script.schedule h.1)
