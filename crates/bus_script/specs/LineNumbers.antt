-- What is printed where a script is refused.
use Rattle.std.specs.Prelude.{ℕ, List, [], ◌∷◌, ◌++◌, codes, decimal}
use Rattle.bus_script.specs.declared.line_numbers.LineNumber.{LineNumber}
use Rattle.bus_script.specs.declared.line_numbers.LineNumber.TheVariants.{AtLine, AtEnd}

abbrev pub line_number_text : LineNumber → List ℕ
line_number_text (AtLine number) = codes "line " ++ decimal number
line_number_text AtEnd = codes "end"

-- the one line that names a refusal
abbrev pub refusal_line : LineNumber → List ℕ → List ℕ
refusal_line line_number name = line_number_text line_number ++ codes ": " ++ name ++ 10 ∷ []
