-- The text of rows, with one row more.
use Rattle.std.proofs.Common.{◌≡◌, ℕ, ◌+◌, ◌<◌, List, ◌++◌, length, get_or, take, drop, map, sym}
use Rattle.std.proofs.Common.{ap, ◌∙◌, append_assoc}
use Rattle.std.specs.Option.{option_map, option_and_then}
use Rattle.std.proofs.lemmas.List.{take-map, drop_more}
use Rattle.std.proofs.lemmas.Option.{slice_get-map, slice_get-get_or}
use Rattle.bus_picture.specs.declared.columns.Columns.{Columns}
use Rattle.bus_picture.specs.declared.rows.Row.{Row}
use Rattle.bus_picture.specs.Rows.{row_shown}
use Rattle.bus_picture.specs.Drawing.{arrows_of, source_of, under_text, over_text}
use Rattle.bus_picture.specs.Pictures.{unders_text, overs_text}

-- the arrow to a row that there is
arrow_there : (rows : List Row) (i : ℕ) (d : Row) → i < length rows
    → arrows_of (map row_shown rows) i
    ≡ source_of (take i (map row_shown rows)) (row_shown (get_or rows i d))
arrow_there rows i d lt = ap (option_and_then (source_of (take i (map row_shown rows))))
    (slice_get-map row_shown rows i ∙ ap (option_map row_shown) (slice_get-get_or rows i d lt))

pub under_more : (c : Columns) (rows : List Row) (i : ℕ) (d : Row) (text : List ℕ) → i < length rows
    → (text
    ++ under_text c (map row_shown rows) (map row_shown (take i rows))
    (source_of (map row_shown (take i rows)) (row_shown (get_or rows i d))) i
    (row_shown (get_or rows i d)))
    ++ unders_text c (map row_shown rows) (arrows_of (map row_shown rows)) (i + 1)
    (map row_shown (drop (i + 1) rows))
    ≡ text
    ++ unders_text c (map row_shown rows) (arrows_of (map row_shown rows)) i
    (map row_shown (drop i rows))
under_more c rows i d text lt =
    let all = map row_shown rows in
    let x = row_shown (get_or rows i d) in
    let one : List ℕ = under_text c all (map row_shown (take i rows))
    (source_of (map row_shown (take i rows)) x) i x in
    let more : List ℕ =
    unders_text c all (arrows_of all) (i + 1) (map row_shown (drop (i + 1) rows)) in
    append_assoc text one more
    ∙ ap (λ above. text ++ (under_text c all above (source_of above x) i x ++ more))
    (sym (take-map row_shown i rows))
    ∙ ap (λ source. text ++ (under_text c all (take i all) source i x ++ more))
    (sym (arrow_there rows i d lt))
    ∙ ap (λ rest. text ++ unders_text c all (arrows_of all) i (map row_shown rest))
    (sym (drop_more rows i d lt))

pub over_more : (c : Columns) (rows : List Row) (i : ℕ) (d : Row) (text : List ℕ) → i < length rows
    → (text ++ over_text c i (row_shown (get_or rows i d)))
    ++ overs_text c (i + 1) (map row_shown (drop (i + 1) rows))
    ≡ text ++ overs_text c i (map row_shown (drop i rows))
over_more c rows i d text lt =
    append_assoc text (over_text c i (row_shown (get_or rows i d)))
    (overs_text c (i + 1) (map row_shown (drop (i + 1) rows)))
    ∙ ap (λ rest. text ++ overs_text c i (map row_shown rest)) (sym (drop_more rows i d lt))
