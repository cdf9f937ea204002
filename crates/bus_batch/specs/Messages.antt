-- Messages and how they are numbered.
use Rattle.std.specs.Prelude.{ℕ, ◌+◌, ◌<◌, ◌≤◌, List, [], ◌∷◌, length, All}
use Rattle.bus_register.specs.declared.limits.TheConstants.{MOST_BYTES, NUMBERS}

-- a message is a list of at most 56 bytes
abbrev pub IsMessage : List ℕ → Type 0
IsMessage bytes = (length bytes ≤ MOST_BYTES) × All (λ byte. byte < 256) bytes

-- a message with the number that its sender gave it
pub record Numbered : Type 0 where
  pub number : ℕ
  pub message : List ℕ

-- a message number has 48 bits
abbrev pub IsNumbered : Numbered → Type 0
IsNumbered m = (m.number < NUMBERS) × IsMessage m.message

-- messages with the numbers from first on
abbrev pub numbered_messages : ℕ → List (List ℕ) → List Numbered
numbered_messages first [] = []
numbered_messages first (m ∷ messages) =
    record { number = first; message = m } ∷ numbered_messages (first + 1) messages
