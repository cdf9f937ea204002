-- Each row of a trace is drawn in its picture.
use Rattle.std.proofs.Common.{◌≡◌, ℕ, zero, suc, ◌+◌, List, [], ◌∷◌, ◌++◌, Option, Some, codes}
use Rattle.std.proofs.Common.{length, take, slice_get, refl, ap, ◌∙◌, subst, append_assoc, arith}
use Rattle.std.proofs.lemmas.Option.{none-some, same_Some}
use Rattle.bus_picture.specs.declared.columns.Columns.{Columns}
use Rattle.bus_picture.specs.declared.finding.Found.{Found}
use Rattle.bus_picture.specs.Rows.{Shown, rows_of}
use Rattle.bus_picture.specs.Places.{no_columns, columns_from}
use Rattle.bus_picture.specs.Drawing.{arrows_of, under_text, over_text}
use Rattle.bus_picture.specs.Pictures.{opening, styles, unders_text, overs_text, picture, StandsIn}
use Rattle.bus_picture.specs.Pictures.{HasItsRows}

-- with a text before it
behind : (first before part after : List ℕ)
    → first ++ (before ++ part ++ after) ≡ first ++ before ++ part ++ after
behind first before part after = simp append_assoc refl

-- below, of rows of which the first has this place among all
under_at : (c : Columns) (all : List Shown) (arrows : ℕ → Option Found) (place : ℕ)
    (rows : List Shown) (k at : ℕ) (s : Shown) → slice_get rows k ≡ Some s → place + k ≡ at
    → StandsIn (under_text c all (take at all) (arrows at) at s)
    (unders_text c all arrows place rows)
under_at c all arrows place [] k at s is there = absurd (none-some s is)
under_at c all arrows place (r ∷ rows) zero at s is there =
    let here : place ≡ at = omega (arith, there) in
    subst (λ i. StandsIn (under_text c all (take i all) (arrows i) i s)
    (unders_text c all arrows place (r ∷ rows))) here
    (subst (λ x. StandsIn (under_text c all (take place all) (arrows place) place x)
    (unders_text c all arrows place (r ∷ rows))) (same_Some r s is)
    ([], unders_text c all arrows (place + 1) rows, refl))
under_at c all arrows place (r ∷ rows) (suc k) at s is there =
    let first = under_text c all (take place all) (arrows place) place r in
    let below = under_at c all arrows (place + 1) rows k at s is (omega (arith, there)) in (
      first ++ below.0,
      below.1,
      ap (λ rest. first ++ rest) below.2
          ∙ behind first below.0 (under_text c all (take at all) (arrows at) at s) below.1,
    )

-- above that, of rows of which the first has this place
over_at : (c : Columns) (place : ℕ) (rows : List Shown) (k at : ℕ) (s : Shown)
    → slice_get rows k ≡ Some s → place + k ≡ at
    → StandsIn (over_text c at s) (overs_text c place rows)
over_at c place [] k at s is there = absurd (none-some s is)
over_at c place (r ∷ rows) zero at s is there =
    let here : place ≡ at = omega (arith, there) in
    subst (λ i. StandsIn (over_text c i s) (overs_text c place (r ∷ rows))) here
    (subst (λ x. StandsIn (over_text c place x) (overs_text c place (r ∷ rows))) (same_Some r s is)
    ([], overs_text c (place + 1) rows, refl))
over_at c place (r ∷ rows) (suc k) at s is there =
    let first = over_text c place r in
    let below = over_at c (place + 1) rows k at s is (omega (arith, there)) in (
      first ++ below.0,
      below.1,
      ap (λ rest. first ++ rest) below.2 ∙ behind first below.0 (over_text c at s) below.1,
    )

-- with texts before it and two behind it
under_within : (a b before part after overs tail : List ℕ)
    → a ++ b ++ (before ++ part ++ after) ++ overs ++ tail
    ≡ (a ++ b ++ before) ++ part ++ (after ++ overs ++ tail)
under_within a b before part after overs tail = simp append_assoc refl

-- with three texts before it and one behind it
over_within : (a b unders before part after tail : List ℕ)
    → a ++ b ++ unders ++ (before ++ part ++ after) ++ tail
    ≡ (a ++ b ++ unders ++ before) ++ part ++ (after ++ tail)
over_within a b unders before part after tail = simp append_assoc refl

pub has_rows : (trace : List ℕ) → HasItsRows trace (picture trace)
has_rows trace place s is =
    let rows = rows_of trace in
    let c = columns_from no_columns rows in
    let first = opening c (length rows) in
    let unders = unders_text c rows (arrows_of rows) 0 rows in
    let overs = overs_text c 0 rows in
    let tail = codes "</svg>" ++ 10 ∷ [] in
    let under = under_at c rows (arrows_of rows) 0 rows place place s is (omega arith) in
    let over = over_at c 0 rows place place s is (omega arith) in (
      (
        first ++ styles ++ under.0,
        under.1 ++ overs ++ tail,
        ap (λ text. first ++ styles ++ text ++ overs ++ tail) under.2
            ∙ under_within first styles under.0
            (under_text c rows (take place rows) (arrows_of rows place) place s) under.1 overs tail,
      ),
      (
        first ++ styles ++ unders ++ over.0,
        over.1 ++ tail,
        ap (λ text. first ++ styles ++ unders ++ text ++ tail) over.2
            ∙ over_within first styles unders over.0 (over_text c place s) over.1 tail,
      ),
    )
