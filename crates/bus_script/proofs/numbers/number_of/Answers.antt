use Rattle.std.proofs.Common.{◌≡◌, ◌≢◌, ◌+◌, ◌-◌, ◌*◌, ◌<◌, ◌≤◌, ◌^◌, true, false, eqb, length}
use Rattle.std.proofs.Common.{get_or, rules, arith, sym, ◌∙◌}
use Rattle.std.specs.Char.{is_ascii_digit}
use Rattle.std.proofs.lemmas.Bool.{eq-eqb}
use Rattle.bus_script.proofs.NumberLaws.{not_below, too_large_is_none, all_digits_are_some}
use Rattle.bus_script.proofs.numbers.number_of.Goals as goal
use Rattle.bus_script.proofs.numbers.number_of.Goals.{then-word-gt1, else-word-gt1}

pub returns-in_err-checked_mul : goal.returns-in_err-checked_mul
returns-in_err-checked_mul c =
    let digit : is_ascii_digit (get_or c.args.word.now c.loop-byte.byte-index 0) ≡ true =
    search rules in
    let large : 2 ^ 64 ≤ c.loop-byte.value * 10 = not_below _ _ c.in_err-checked_mul.ensures in
    c.from_residual.ensures
    ∙ sym (too_large_is_none c.args.word.now c.loop-byte.byte-index c.loop-byte.value
    c.loop-byte-test.true digit c.loop-byte.invariant.value (omega arith))

pub returns-in_err-value : goal.returns-in_err-value
returns-in_err-value c =
    let digit : is_ascii_digit (get_or c.args.word.now c.loop-byte.byte-index 0) ≡ true =
    search rules in
    let product : c.in_ok-checked_mul.field-0 ≡ c.loop-byte.value * 10 = search rules in
    let last : c.from.result ≡ get_or c.args.word.now c.loop-byte.byte-index 0 - 48 =
    search rules in
    let large : 2 ^ 64 ≤ c.in_ok-checked_mul.field-0 + c.from.result =
    not_below _ _ c.in_err-value.ensures in
    c.from_residual-in_err-value.ensures
    ∙ sym (too_large_is_none c.args.word.now c.loop-byte.byte-index c.loop-byte.value
    c.loop-byte-test.true digit c.loop-byte.invariant.value (omega arith))

pub returns : goal.returns
returns c =
    let at_end : c.loop-byte.byte-index ≡ length c.args.word.now = omega arith in
    let zeros : 1 < length c.args.word.now → get_or c.args.word.now 0 0 ≢ 48 =
    λ long e. elim c.if-word-gt1.branch [
      | then-word-gt1 w ↦
          let is : eqb (get_or c.args.word.now 0 0) 48 ≡ true =
          eq-eqb (get_or c.args.word.now 0 0) 48 e in
          let clash : true ≡ false = sym is ∙ sym w.value-is ∙ c.if-word-eq48.false in cc
      | else-word-gt1 w ↦ absurd (omega (arith, w.if-word-gt1.false))
    ] in
    let some : 0 < length c.args.word.now = search rules in
    sym (all_digits_are_some c.args.word.now c.loop-byte.value some zeros c.loop-byte.invariant.fits
    (rw (← at_end) c.loop-byte.invariant.digits) (rw (← at_end) c.loop-byte.invariant.value))
