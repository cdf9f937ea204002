-- A state whose operations are long messages: each goes over the bus in pieces.
use Rattle.std.specs.Prelude.{◌≡◌, ℕ, ◌≤◌, List, All, length, flat_map, Option, Some, None}
use Rattle.std.specs.Prelude.{replicate, get_or, set}
use Rattle.bus_register.specs.declared.limits.TheConstants.{MOST_SENDERS}
use Rattle.bus_long.specs.Pieces.{Begun, nothing, pieces, whole_by, begun_by}
use Rattle.bus_long.specs.declared.pieces.TheConstants.{MOST_LONG_BYTES}
use Rattle.bus_replica.specs.Replicas.{Operations}

-- the state of the long operations, and what the pieces of each worker have come to
pub record LongState (S : Type 0) : Type 0 where
  pub state : S
  pub begun : List Begun

-- what those of a worker have come to
abbrev pub begun_of : {S : Type 0} → LongState S → ℕ → Begun
begun_of old worker = get_or old.begun worker nothing

-- no worker has begun anything
abbrev pub IsFirstLong : {S : Type 0} → (S → Type 0) → LongState S → Type 0
IsFirstLong IsFirst new = IsFirst new.state × (new.begun ≡ replicate MOST_SENDERS nothing)

-- a long operation that is whole is applied, and its answer is told
abbrev pub AppliesWhole : {S A : Type 0} → Operations S A → S → ℕ → Option (List ℕ) → Option A → S
    → Type 0
AppliesWhole Applies old from None answer new = (answer ≡ None) × (new ≡ old)
AppliesWhole {S} {A} Applies old from (Some bytes) answer new =
    (own : A) × (answer ≡ Some own) × Applies old from bytes own new

-- a message of a worker: the long operation is applied that is whole with it, if one is
pub record AppliesLong {S A : Type 0} (Applies : Operations S A) (old : LongState S) (from : ℕ)
    (op : List ℕ) (answer : Option A) (new : LongState S) : Type 0 where
  pub whole : AppliesWhole Applies old.state from (whole_by (begun_of old from) op) answer new.state
  pub begins : new.begun ≡ set old.begun from (begun_by (begun_of old from) op)

-- messages that are the pieces of these long operations, one after another
pub record ArePiecesOf (operations messages : List (List ℕ)) : Type 0 where
  pub short : All (λ op. length op ≤ MOST_LONG_BYTES) operations
  pub all : messages ≡ flat_map pieces operations
