-- The lines of a script of `ratify` are what they spell, both ways.
use Rattle.std.proofs.Common.{◌≡◌, ℕ, ◌^◌, ◌<◌, ◌≤◌, Bool, true, false, cond, leb, ◌&&◌, List, []}
use Rattle.std.proofs.Common.{◌∷◌, length, Some, None, refl, sym, ap, ◌∙◌, ◌⊎◌, inl, inr, arith}
use Rattle.std.specs.Prelude.{decimal, codes, option_and_then}
use Rattle.std.specs.List.{AllByRecursion}
use Rattle.std.specs.Str.{bytes_eq}
use Rattle.std.proofs.lemmas.Bool.{and_parts, leb-true, le-leb}
use Rattle.std.proofs.lemmas.Fmt.{decimal_digit}
use Rattle.std.proofs.lemmas.Option.{cond_some}
use Rattle.std.proofs.lemmas.Slice.Eq.{bytes_eq-Decides}
use Rattle.bus_script.specs.Grammar.{number_of, each_of, arguments_of}
use Rattle.bus_register.specs.Digits.{digit}
use Rattle.bus_ratify.specs.declared.limits.TheConstants.{MOST_INPUTS}
use Rattle.bus_ratify.specs.Scripts.{bit_of, if_between, if_any, inputs_of, steps_of}
use Rattle.bus_ratify.specs.Lines.{IsInputsLine, IsStepsLine}
use Rattle.bus_script.proofs.SpelledLaws.{NoSpace, chained, number_plain, number_spelled}
use Rattle.bus_script.proofs.SpelledLaws.{number_read, line_spelled, line_read}

-- ---- the line of inputs

bit_cases : (b d : Bool) (x : Bool) → cond b (Some false) (cond d (Some true) None) ≡ Some x
    → ((b ≡ true) × (x ≡ false)) ⊎ ((d ≡ true) × (x ≡ true))
bit_cases true d x e = inl (refl, cc)
bit_cases false true x e = inr (refl, cc)
bit_cases false false x e = absurd cc

abbrev bit_text : Bool → List ℕ
bit_text b = decimal (digit b)

bit_spelled : (word : List ℕ) (b : Bool) → bit_of word ≡ Some b → (word ≡ bit_text b) × Unit {0}
bit_spelled word b e =
    elim (bit_cases (bytes_eq word (codes "0")) (bytes_eq word (codes "1")) b e) [
      | inl h ↦ (
        (bytes_eq-Decides word (codes "0")).0 h.0 ∙ sym (decimal_digit 0 (omega arith))
            ∙ ap bit_text (sym h.1),
        tt,
      )
      | inr h ↦ (
        (bytes_eq-Decides word (codes "1")).0 h.0 ∙ sym (decimal_digit 1 (omega arith))
            ∙ ap bit_text (sym h.1),
        tt,
      )
    ]

bit_read : (b : Bool) → Unit {0} → bit_of (bit_text b) ≡ Some b
bit_read true good = ap bit_of (decimal_digit 1 (omega arith))
bit_read false good = ap bit_of (decimal_digit 0 (omega arith))

bit_plain : (b : Bool) → Unit {0} → NoSpace (bit_text b)
bit_plain true good = number_plain 1 (omega arith)
bit_plain false good = number_plain 0 (omega arith)

all_good : (bits : List Bool) → AllByRecursion (λ _. Unit {0}) bits
all_good [] = tt
all_good (b ∷ bits) = (tt, all_good bits)

between : {A : Type 0} (low high : ℕ) (xs ys : List A) → if_between low high xs ≡ Some ys
    → (xs ≡ ys) × (low ≤ length ys) × (length ys ≤ high)
between low high xs ys e =
    let k = cond_some (leb low (length xs) && leb (length xs) high) xs ys e in
    let p = and_parts (leb low (length xs)) (leb (length xs) high) k.0 in
    let same = ap length k.1 in
    (k.1, omega (arith, leb-true low (length xs) p.0), omega (arith, leb-true (length xs) high p.1))

any : {A : Type 0} (xs ys : List A) → if_any xs ≡ Some ys → (xs ≡ ys) × (1 ≤ length ys)
any xs ys e =
    let k = cond_some (leb 1 (length xs)) xs ys e in
    let same = ap length k.1 in
    (k.1, omega (arith, leb-true 1 (length xs) k.0))

pub inputs_spelled : (line : List ℕ) (inputs : List Bool) → inputs_of line ≡ Some inputs
    → IsInputsLine line inputs
inputs_spelled line inputs e =
    let k = chained (if_between 1 MOST_INPUTS)
    (option_and_then (each_of bit_of) (arguments_of (codes "inputs") line)) inputs e in
    let b = between 1 MOST_INPUTS k.0 inputs k.2 in
    let read = k.1 ∙ ap (λ (l : List Bool). Some l) b.0 in
    record {
      spelled =
          (line_spelled bit_of bit_text (λ _. Unit {0}) bit_spelled bit_read (codes "inputs") line
          inputs read).0;
      some = b.1;
      few = b.2;
    }

pub inputs_read : (line : List ℕ) (inputs : List Bool) → IsInputsLine line inputs
    → inputs_of line ≡ Some inputs
inputs_read line inputs h =
    let read = line_read bit_of bit_text (λ _. Unit {0}) bit_spelled bit_read bit_plain
    (codes "inputs") line inputs (refl, (refl, (refl, (refl, (refl, (refl, tt))))))
    (all_good inputs) h.spelled in
    ap (option_and_then (if_between 1 MOST_INPUTS)) read
    ∙ ap (λ b. cond b (Some inputs) None) (ap (λ b. b && leb (length inputs) MOST_INPUTS)
    (le-leb 1 (length inputs) h.some) ∙ le-leb (length inputs) MOST_INPUTS h.few)

-- ---- the lines of steps

pub steps_spelled : (line numbers : List ℕ) → steps_of line ≡ Some numbers
    → IsStepsLine line numbers
steps_spelled line numbers e =
    let k = chained if_any (option_and_then (each_of number_of) (arguments_of (codes "steps") line))
    numbers e in
    let b = any k.0 numbers k.2 in
    let read = k.1 ∙ ap (λ (l : List ℕ). Some l) b.0 in
    let told = line_spelled number_of decimal (λ n. n < 2 ^ 64) number_spelled number_read
    (codes "steps") line numbers read in
    record { spelled = told.0; some = b.1; fit = told.1 }

pub steps_read : (line numbers : List ℕ) → IsStepsLine line numbers → steps_of line ≡ Some numbers
steps_read line numbers h =
    let read = line_read number_of decimal (λ n. n < 2 ^ 64) number_spelled number_read number_plain
    (codes "steps") line numbers (refl, (refl, (refl, (refl, (refl, tt))))) h.fit h.spelled in
    ap (option_and_then if_any) read
    ∙ ap (λ b. cond b (Some numbers) None) (le-leb 1 (length numbers) h.some)
