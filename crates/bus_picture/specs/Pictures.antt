-- The picture of a trace.
use Rattle.std.specs.Prelude.{◌≡◌, ℕ, ◌+◌, Option, Some, List, [], ◌∷◌, ◌++◌, codes, length, take}
use Rattle.std.specs.Prelude.{slice_get}
use Rattle.bus_picture.specs.declared.columns.Columns.{Columns}
use Rattle.bus_picture.specs.declared.finding.Found.{Found}
use Rattle.bus_picture.specs.Rows.{Shown, rows_of}
use Rattle.bus_picture.specs.Places.{no_columns, columns_from, down, edge}
use Rattle.bus_picture.specs.Shapes.{size}
use Rattle.bus_picture.specs.Arrows.{AreArrows}
use Rattle.bus_picture.specs.Drawing.{arrows_of, under_text, over_text}

-- of a picture that has these columns and ends at this row
abbrev pub opening : Columns → ℕ → List ℕ
opening c place = size (edge c + 440) (down place)

abbrev pub line : List ℕ → List ℕ
line text = text ++ 10 ∷ []

-- the title, how shapes look, the ground, and what they say
abbrev pub styles : List ℕ
styles =
    line (codes "<title>The steps of a bus, time downwards</title>")
    ++ line
    (codes
    "<style>text{paint-order:stroke;stroke:#fff;stroke-width:3px;stroke-linejoin:round}.life{stroke:#999;stroke-dasharray:2 3}.band{stroke:#ddd;stroke-width:18;stroke-linecap:square}.arrow{stroke:#06c;marker-end:url(#tip)}.head{font-weight:bold;text-anchor:middle}.tenure{font-size:9px;text-anchor:end}@media(prefers-color-scheme:dark){svg{filter:invert(1) hue-rotate(180deg)}}</style>")
    ++ line
    (codes
    "<defs><marker id='tip' viewBox='0 0 8 8' refX='14' refY='4' markerWidth='8' markerHeight='8' orient='auto'><path d='M0 0L8 4L0 8z' fill='#06c'/></marker>")
    ++ line
    (codes
    "<circle id='look' r='5' fill='#fff' stroke='#06c' stroke-width='2'/><rect id='store' x='-5' y='-5' width='10' height='10' fill='#a50'/>")
    ++ line
    (codes
    "<path id='add' d='M0 -7L7 0L0 7L-7 0z' fill='#080'/><path id='exchange' d='M0 -7L7 5H-7z' fill='#808'/><path id='page' d='M0 -9L2 -2L9 0L2 2L0 9L-2 2L-9 0L-2 -2z' fill='#c00'/>")
    ++ line
    (codes
    "<path id='call' d='M-4 -4L4 4M-4 4L4 -4' stroke='#000' stroke-width='2'/><path id='nothing' d='M-4 0H4' stroke='#000' stroke-width='2'/></defs>")
    ++ line
    (codes
    "<rect width='100%' height='100%' fill='#fff'/><text x='8' y='20' font-size='14' font-weight='bold'>The steps of a bus, time downwards</text>")
    ++ line
    (codes
    "<use href='#look' x='16' y='42'/><text x='28' y='46'>load</text><use href='#store' x='76' y='42'/><text x='88' y='46'>store</text><use href='#add' x='138' y='42'/><text x='150' y='46'>add</text><use href='#exchange' x='192' y='42'/><text x='204' y='46'>compare_exchange</text>")
    ++ line
    (codes
    "<use href='#call' x='330' y='42'/><text x='342' y='46'>call</text><use href='#nothing' x='390' y='42'/><text x='402' y='46'>no step</text>")
    ++ line
    (codes
    "<use href='#page' x='16' y='64'/><text x='30' y='68'>stores the stage: takes the page, gives it back</text><path class='band' d='M324 64H334'/><text x='350' y='68'>in a tenure, its number</text>")
    ++ line
    (codes
    "<path class='arrow' d='M8 86H40'/><text x='46' y='90'>from a store to a load of another process that found it</text><text x='350' y='90'>no answer: going</text>")

-- what lies below, of rows of which the first has this place among all; to each place this arrow,
-- if there is one
abbrev pub unders_text : Columns → (all : List Shown) → (ℕ → Option Found) → (place : ℕ)
    → List Shown → List ℕ
unders_text c all arrows place [] = []
unders_text c all arrows place (s ∷ rows) =
    under_text c all (take place all) (arrows place) place s
    ++ unders_text c all arrows (place + 1) rows

-- the marks and texts of rows, of which the first has this place
abbrev pub overs_text : Columns → (place : ℕ) → List Shown → List ℕ
overs_text c place [] = []
overs_text c place (s ∷ rows) = over_text c place s ++ overs_text c (place + 1) rows

-- the picture of these rows, with these arrows
abbrev pub picture_of_rows : (ℕ → Option Found) → List Shown → List ℕ
picture_of_rows arrows rows =
    opening (columns_from no_columns rows) (length rows) ++ styles
    ++ unders_text (columns_from no_columns rows) rows arrows 0 rows
    ++ overs_text (columns_from no_columns rows) 0 rows ++ (codes "</svg>" ++ 10 ∷ [])

-- the picture of a trace: of its rows, with their arrows
abbrev pub picture : List ℕ → List ℕ
picture trace = picture_of_rows (arrows_of (rows_of trace)) (rows_of trace)

-- the text is a picture of the trace that has just its arrows
abbrev pub HasItsArrows : (trace text : List ℕ) → Type 0
HasItsArrows trace text =
    (arrows : ℕ → Option Found) × AreArrows (rows_of trace) arrows
    × (text ≡ picture_of_rows arrows (rows_of trace))

-- this part stands somewhere in the text
abbrev pub StandsIn : (part text : List ℕ) → Type 0
StandsIn part text = (before : List ℕ) × (after : List ℕ) × (text ≡ before ++ part ++ after)

-- the text has each row of the trace: its arrow and what else lies below, among those above it, and
-- its mark and texts, in its place
abbrev pub HasItsRows : (trace text : List ℕ) → Type 0
HasItsRows trace text = (place : ℕ) (s : Shown) → slice_get (rows_of trace) place ≡ Some s
    → StandsIn (under_text (columns_from no_columns (rows_of trace)) (rows_of trace)
    (take place (rows_of trace)) (arrows_of (rows_of trace) place) place s) text
    × StandsIn (over_text (columns_from no_columns (rows_of trace)) place s) text
