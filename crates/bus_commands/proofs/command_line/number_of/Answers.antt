use Rattle.std.proofs.Common.{◌≡◌, ℕ, List, Option, Some, None, Result, Ok, Err, inl, inr}
use Rattle.std.proofs.Common.{unwrap_or, refl, sym, ◌∙◌, ap, subst}
use Rattle.std.proofs.lemmas.Option.{same_Some}
use Rattle.std.specs.Str.Parse.{ParsesUnsigned, ExplainsUnsignedError, HasUnsignedDigitsIfOk}
use Rattle.std.specs.declared.num.ParseIntError.{ParseIntError}
use Rattle.clap.specs.Words.{Row, Text, ReadsOne, one_of, rows_of, found_of}
use Rattle.clap.proofs.WalkLemmas.{one_text-rows}
use Rattle.bus_commands.specs.CommandLine.{IsNumberOf}
use Rattle.bus_commands.proofs.command_line.number_of.Goals as goal

-- what `get_one` and its default give, by the text of an option
module _ (G : Text → Result ℕ ParseIntError → Type 0)
    (spells : (t : Text) (r : Result ℕ ParseIntError) → G t r → ParsesUnsigned 64 10 t r)
    (name : Text) (rows : List Row) (default : ℕ) where
  read : (text : Option Text) → one_of name rows ≡ text → (got : Option ℕ)
      → (text ≡ None → got ≡ None) → ((t : Text) → text ≡ Some t → ReadsOne G t got)
      → IsNumberOf name rows default (unwrap_or got default)
  read None is got none some = inr (
    ap (λ (z : Option ℕ). unwrap_or z default) (none refl),
    λ t e. absurd (let bad = sym is ∙ e in cc),
  )
  read (Some t) is (Some n) none some = inl (t, is, spells t (Ok n) (some t refl))
  read (Some t) is None none some =
      let e = some t refl in
      inr (
        refl,
        λ u same. (
          e.0,
          subst (λ z. ParsesUnsigned 64 10 z (Err e.0)) (same_Some t u (sym is ∙ same))
              (spells t (Err e.0) e.1),
        ),
      )

pub returns : goal.returns
returns c =
    let same = one_text-rows (found_of c.args.given.now) c.args.name.now in
    let n = read
    (λ t r. ParsesUnsigned 64 10 t r × ExplainsUnsignedError 10 t r × HasUnsignedDigitsIfOk t r)
    (λ t r g. g.0) c.args.name.now (rows_of (found_of c.args.given.now)) c.args.default _ refl
    c.get_one.result
    (λ e. c.get_one.ensures.none (same ∙ e)) (λ t e. c.get_one.ensures.value t (same ∙ e)) in
    rw c.unwrap_or.ensures n
