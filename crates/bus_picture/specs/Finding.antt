-- Rows that are looked for.
use Rattle.std.specs.Prelude.{ℕ, ◌+◌, ◌==◌, ◌&&◌, Bool, false, List, [], ◌∷◌, Option, Some}
use Rattle.std.specs.Prelude.{if◌then◌else◌}
use Rattle.std.specs.Str.{bytes_eq}
use Rattle.bus_picture.specs.declared.finding.Found.{Found}
use Rattle.bus_picture.specs.declared.finding.Wanted.{Wanted}
use Rattle.bus_picture.specs.declared.finding.Wanted.TheVariants as wanted
use Rattle.bus_picture.specs.declared.processes.Process.{Process}
use Rattle.bus_picture.specs.declared.processes.Process.TheVariants.{Sender, Receiver}
use Rattle.bus_picture.specs.Rows.{Shown, writes}

abbrev pub is_same : Process → Process → Bool
is_same (Sender a) (Sender b) = a == b
is_same (Receiver a) (Receiver b) = a == b
is_same (Sender a) (Receiver b) = false
is_same (Receiver a) (Sender b) = false

-- a step that leaves a value of its own in this word
abbrev pub stores_in : List ℕ → Shown → Bool
stores_in word s = writes s && bytes_eq s.word word

-- of a process in a tenure
abbrev pub stays : Process → List ℕ → Shown → Bool
stays p tenure s = is_same s.process p && bytes_eq s.tenure tenure

-- of a process
abbrev pub is_of : Process → Shown → Bool
is_of p s = is_same s.process p

-- what a program looks for
abbrev pub fits : Wanted → Shown → Bool
fits (wanted.Store word) = stores_in word.now
fits (wanted.Stay p tenure) = stays p tenure.now
fits (wanted.Of p) = is_of p

-- the last of those rows that pass, where the first has this place and an earlier one was this
abbrev pub latest : (Shown → Bool) → ℕ → Option Found → List Shown → Option Found
latest passes place earlier [] = earlier
latest passes place earlier (s ∷ rows) = latest passes (place + 1)
    (if passes s then Some (record { place = place; process = s.process }) else earlier) rows
