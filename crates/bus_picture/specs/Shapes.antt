-- Shapes at places, in units of the picture from its left and its top.
use Rattle.std.specs.Prelude.{ℕ, Bool, ◌&&◌, ◌||◌, nat_le, nat_lt, List, [], ◌∷◌, ◌++◌, length}
use Rattle.std.specs.Prelude.{slice_index, take, codes, decimal, if◌then◌else◌}
use Rattle.std.specs.Str.{bytes_eq}

-- ---- parts
abbrev pub point : (x y : ℕ) → List ℕ
point x y = decimal x ++ codes " " ++ decimal y

abbrev pub at : (x y : ℕ) → List ℕ
at x y = codes " x='" ++ decimal x ++ codes "' y='" ++ decimal y ++ codes "'"

-- the end of a line straight down
abbrev pub down_to : ℕ → List ℕ
down_to y = codes "V" ++ decimal y ++ codes "'/>"

-- what a text says, and its end
abbrev pub text_body : List ℕ → List ℕ
text_body words = codes ">" ++ words ++ codes "</text>" ++ 10 ∷ []

abbrev pub path_end : List ℕ
path_end = codes "'/>" ++ 10 ∷ []

abbrev pub use_of : List ℕ → List ℕ
use_of mark = codes "<use href='#" ++ mark ++ codes "'"

-- ---- shapes
-- the name of a process, and its line
abbrev pub head_at : (x bottom : ℕ) (who : List ℕ) → List ℕ
head_at x bottom who =
    codes "<path class='life' d='M" ++ point x 132 ++ down_to bottom ++ codes "<text class='head'"
    ++ at x 124 ++ text_body who

-- with the number of its tenure
abbrev pub band_at : (x top bottom : ℕ) (tenure : List ℕ) → List ℕ
band_at x top bottom tenure =
    codes "<path class='band' d='M" ++ point x top ++ down_to bottom
    ++ codes "<text class='tenure' dx='-12' dy='4'" ++ at x top ++ text_body tenure

abbrev pub arrow_at : (from_x from_y x y : ℕ) → List ℕ
arrow_at from_x from_y x y =
    codes "<path class='arrow' d='M" ++ point from_x from_y ++ codes "L" ++ point x y ++ path_end

-- the first byte of a character, in UTF-8
abbrev pub begins_character : ℕ → Bool
begins_character byte = nat_lt byte 128 || nat_le 192 byte

-- an answer that is longer than a column is wide, where a character begins behind its first 18
-- bytes
abbrev pub is_cut : List ℕ → Bool
is_cut answer = nat_lt 20 (length answer) && begins_character (slice_index answer 18)

-- the answer; if it is too long its first 18 bytes, and two dots
abbrev pub short : List ℕ → List ℕ
short answer = if is_cut answer then take 18 answer ++ codes ".." else answer

abbrev pub beside_at : (x y : ℕ) (answer : List ℕ) → List ℕ
beside_at x y answer = codes "<text dx='14' dy='4'" ++ at x y ++ text_body (short answer)

-- An answer beside its mark, cut where it is too long. That a turn is going is left out: most are.
abbrev pub answer_at : (x y : ℕ) (answer : List ℕ) → List ℕ
answer_at x y answer = if bytes_eq answer (codes "going") then 10 ∷ [] else beside_at x y answer

-- with the answer beside it
abbrev pub mark_at : (x y : ℕ) (mark answer : List ℕ) → List ℕ
mark_at x y mark answer = use_of mark ++ at x y ++ codes "/>" ++ answer_at x y answer

-- the number of a row, at the left
abbrev pub number_at : (y : ℕ) (number : List ℕ) → List ℕ
number_at y number = codes "<text dy='4'" ++ at 8 y ++ text_body number

-- where words begin, and how they end
abbrev pub words_at : (x y : ℕ) → List ℕ
words_at x y = codes "<text dy='4'" ++ at x y ++ codes ">"

abbrev pub words_end : List ℕ
words_end = codes "</text>" ++ 10 ∷ []

-- how wide and how high a picture is shown
abbrev pub extent : (width height : ℕ) → List ℕ
extent width height =
    codes " width='" ++ decimal width ++ codes "' height='" ++ decimal height ++ codes "'"

-- the beginning of a picture that is so wide and so high
abbrev pub size : (width height : ℕ) → List ℕ
size width height =
    codes "<svg xmlns='http://www.w3.org/2000/svg' font-family='sans-serif' font-size='11'"
    ++ extent width height ++ codes " viewBox='0 0 " ++ point width height
    ++ (codes "'>" ++ 10 ∷ [])
