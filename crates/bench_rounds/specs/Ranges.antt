-- Which numbers a measurement can have.
use Rattle.std.specs.Prelude.{◌≢◌, ◌<◌, ◌⊎◌, ℕ}
use Rattle.bus_register.specs.declared.limits.TheConstants.{MOST_ROUNDS}
use Rattle.bus_run.specs.declared.limits.TheConstants.{MOST_RECEIVE_WORKERS, MOST_SEND_WORKERS}
use Rattle.bench_rounds.specs.declared.request.TheConstants.{MOST_REPETITIONS}
use Rattle.bench_rounds.specs.declared.request.Field.{Field}
use Rattle.bench_rounds.specs.declared.request.Field.TheVariants as field
use Rattle.bench_rounds.specs.declared.request.Refusal.{Refusal}
use Rattle.bench_rounds.specs.declared.request.Refusal.TheVariants as refusal

-- the number of this word is out of its range
abbrev pub IsOut : ℕ → ℕ → ℕ → ℕ → ℕ → ℕ → Field → Type 0
IsOut senders receivers messages bytes repetitions rounds field.Senders =
    (senders < 1) ⊎ (MOST_SEND_WORKERS < senders)
IsOut senders receivers messages bytes repetitions rounds field.Receivers =
    (receivers < 1) ⊎ (MOST_RECEIVE_WORKERS < receivers)
IsOut senders receivers messages bytes repetitions rounds field.Messages = messages < 1
IsOut senders receivers messages bytes repetitions rounds field.Bytes = (bytes ≢ 8) × (bytes ≢ 56)
IsOut senders receivers messages bytes repetitions rounds field.Repetitions =
    MOST_REPETITIONS < repetitions
IsOut senders receivers messages bytes repetitions rounds field.Rounds =
    (rounds < 1) ⊎ (MOST_ROUNDS < rounds)

-- the refusal names a word that is out of its range
abbrev pub IsOutOfRange : ℕ → ℕ → ℕ → ℕ → ℕ → ℕ → Refusal → Type 0
IsOutOfRange senders receivers messages bytes repetitions rounds refusal.NotText = ⊥
IsOutOfRange senders receivers messages bytes repetitions rounds (refusal.Count given) = ⊥
IsOutOfRange senders receivers messages bytes repetitions rounds (refusal.NotNumber word) = ⊥
IsOutOfRange senders receivers messages bytes repetitions rounds (refusal.OutOfRange word) =
    IsOut senders receivers messages bytes repetitions rounds word
IsOutOfRange senders receivers messages bytes repetitions rounds (refusal.Ring least) = ⊥
IsOutOfRange senders receivers messages bytes repetitions rounds refusal.Batch = ⊥
