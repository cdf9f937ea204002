-- Who takes steps, as the column of who names it.
use Rattle.std.specs.Prelude.{ℕ, List, [], ◌∷◌, Option, Some, None, codes, nat_lt, if◌then◌else◌}
use Rattle.std.specs.Option.{option_map}
use Rattle.std.specs.Str.{bytes_eq}
use Rattle.bus_register.specs.declared.limits.TheConstants.{MOST_SENDERS, MOST_RECEIVERS}
use Rattle.bus_script.specs.Grammar.{words_of, number_of}
use Rattle.bus_picture.specs.declared.processes.Process.{Process}
use Rattle.bus_picture.specs.declared.processes.Process.TheVariants.{Sender, Receiver}

-- a number, where it is below this one
abbrev pub below : ℕ → Option ℕ → Option ℕ
below most None = None
below most (Some n) = if nat_lt n most then Some n else None

-- the sender or receiver of this number, where a bus can have one
abbrev pub process_with : (role number : List ℕ) → Option Process
process_with role number =
    if bytes_eq role (codes "sender") then option_map Sender (below MOST_SENDERS (number_of number))
    else
    (if bytes_eq role (codes "receiver")
    then option_map Receiver (below MOST_RECEIVERS (number_of number)) else None)

-- the process that two words name
abbrev pub process_in : List (List ℕ) → Option Process
process_in (role ∷ number ∷ []) = process_with role number
process_in other = None

-- the process of this name, if it is one: `sender` or `receiver`, a space, and its number
unfoldable pub process_of : List ℕ → Option Process
process_of who = process_in (words_of who)
