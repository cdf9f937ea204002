-- The rows of one line more.
use Rattle.std.proofs.Common.{◌≡◌, ℕ, ◌+◌, ◌<◌, eqb, List, [], ◌∷◌, ◌++◌, length, get_or, take}
use Rattle.std.proofs.Common.{map, Option, Some, None, refl, sym, ap, ◌∙◌, Bor}
use Rattle.std.specs.List.{slice_split, filter_map, cons_option}
use Rattle.std.specs.Option.{option_map}
use Rattle.std.proofs.lemmas.List.{take_more, map-append}
use Rattle.std.proofs.lemmas.List.Elements.{filter_map-append}
use Rattle.bus_picture.specs.declared.rows.Row.{Row}
use Rattle.bus_picture.specs.Rows.{Shown, row_of, row_shown}

abbrev pub row_at : List ℕ → Option Shown
row_at line = row_of (slice_split (λ b. eqb b 9) line)

-- what is put behind the rows
abbrev pub added : Option Row → List Row
added None = []
added (Some r) = r ∷ []

added_told : (r : Option Row) → map row_shown (added r) ≡ cons_option (option_map row_shown r) []
added_told None = refl
added_told (Some r) = refl

pub rows_more :
    (lines : List (Bor (List ℕ))) (i : ℕ) (d : Bor (List ℕ)) (old new : List Row) (r : Option Row)
    → i < length lines
    → map row_shown old ≡ filter_map row_at (map (λ t. t.now) (take i lines))
    → option_map row_shown r ≡ row_at (get_or lines i d).now → new ≡ old ++ added r
    → map row_shown new ≡ filter_map row_at (map (λ t. t.now) (take (i + 1) lines))
rows_more lines i d old new r lt had one is =
    let now : Bor (List ℕ) → List ℕ = λ t. t.now in
    let x = get_or lines i d in
    let left : map row_shown new ≡ map row_shown old ++ cons_option (option_map row_shown r) [] =
    ap (map row_shown) is ∙ map-append row_shown old (added r)
    ∙ ap (λ l. map row_shown old ++ l) (added_told r) in
    let cut : map now (take (i + 1) lines) ≡ map now (take i lines) ++ x.now ∷ [] =
    ap (map now) (take_more lines i d lt) ∙ map-append now (take i lines) (x ∷ []) in
    left ∙ ap (λ o. map row_shown old ++ cons_option o []) one
    ∙ ap (λ l. l ++ cons_option (row_at x.now) []) had
    ∙ sym
    (ap (filter_map row_at) cut ∙ filter_map-append row_at (map now (take i lines)) (x.now ∷ []))
