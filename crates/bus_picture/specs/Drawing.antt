-- What is drawn of a row: below, the head of its process, the band of its tenure and an arrow;
-- above that a mark, its answer and what it did.
use Rattle.std.specs.Prelude.{ℕ, List, [], ◌++◌, Option, Some, None, is_some, codes, slice_get}
use Rattle.std.specs.Prelude.{take, if◌then◌else◌}
use Rattle.std.specs.Option.{option_and_then}
use Rattle.std.specs.Str.{bytes_eq}
use Rattle.bus_picture.specs.declared.columns.Columns.{Columns}
use Rattle.bus_picture.specs.declared.finding.Found.{Found}
use Rattle.bus_picture.specs.declared.processes.Process.{Process}
use Rattle.bus_picture.specs.Families.{mark_name}
use Rattle.bus_picture.specs.Rows.{Shown, reads, writes}
use Rattle.bus_picture.specs.Finding.{is_same, stores_in, stays, is_of, latest}
use Rattle.bus_picture.specs.Places.{across, down, edge}
use Rattle.bus_picture.specs.Shapes.{head_at, band_at, arrow_at, mark_at, number_at, words_at}
use Rattle.bus_picture.specs.Shapes.{words_end}
use Rattle.bus_picture.specs.Values.{value_text}

abbrev pub place_or : Option Found → ℕ → ℕ
place_or None place = place
place_or (Some f) place = f.place

-- where that is another process's
abbrev pub of_another : Process → Option Found → Option Found
of_another p None = None
of_another p (Some f) = if is_same f.process p then None else Some f

-- where the arrow to a row comes from: the latest store of the word that a load found, where that
-- is another process's
abbrev pub source_of : (above : List Shown) → Shown → Option Found
source_of above s =
    if reads s then of_another s.process (latest (stores_in s.word) 0 None above) else None

-- the same of the row of this place
abbrev pub arrows_of : List Shown → ℕ → Option Found
arrows_of rows place = option_and_then (source_of (take place rows)) (slice_get rows place)

-- At the first row of a process. Its line ends at its last one.
abbrev pub head_text : Columns → (rows above : List Shown) (place : ℕ) → Shown → List ℕ
head_text c rows above place s =
    if is_some (latest (is_of s.process) 0 None above) then [] else
    head_at (across c s.process) (down (place_or (latest (is_of s.process) 0 None rows) place))
    s.who

-- At the first row of a process in a tenure. The band ends at its last one.
abbrev pub band_text : Columns → (rows above : List Shown) (place : ℕ) → Shown → List ℕ
band_text c rows above place s =
    if bytes_eq s.tenure (codes "-") then [] else
    (if is_some (latest (stays s.process s.tenure) 0 None above) then [] else
    band_at (across c s.process) (down place)
    (down (place_or (latest (stays s.process s.tenure) 0 None rows) place)) s.tenure)

-- an arrow from there, if there is one
abbrev pub arrow_text : Columns → Option Found → (place : ℕ) → Shown → List ℕ
arrow_text c None place s = []
arrow_text c (Some f) place s =
    arrow_at (across c f.process) (down f.place) (across c s.process) (down place)

abbrev pub mark_text : Columns → (place : ℕ) → Shown → List ℕ
mark_text c place s = mark_at (across c s.process) (down place) (mark_name s.family) s.answer

-- the word of a step, and what it found there
abbrev pub found_text : Shown → List ℕ
found_text s = codes " " ++ s.word ++ codes ": " ++ value_text s.word s.found

-- the kind, and of a step its word, what it found there, and what it left if that is its own
abbrev pub what_text : Shown → List ℕ
what_text s =
    s.kind
    ++ (if writes s then found_text s ++ codes " to " ++ value_text s.word s.after
    else (if reads s then found_text s else []))

-- what lies below the marks and texts of all rows, with the arrow from there
abbrev pub under_text : Columns → (rows above : List Shown) → Option Found → (place : ℕ) → Shown
    → List ℕ
under_text c rows above source place s =
    head_text c rows above place s ++ band_text c rows above place s ++ arrow_text c source place s

-- the mark and the texts
abbrev pub over_text : Columns → (place : ℕ) → Shown → List ℕ
over_text c place s =
    mark_text c place s ++ number_at (down place) s.number ++ words_at (edge c) (down place)
    ++ what_text s ++ words_end
