-- How large messages are, and rings.
use Rattle.std.specs.Prelude.{◌+◌, ◌*◌, ℕ}
use Rattle.bus_register.specs.declared.limits.TheConstants.{MOST_MESSAGE_WORDS}
use Rattle.bench_rounds.specs.declared.request.Size.{Size}
use Rattle.bench_rounds.specs.declared.request.Size.TheVariants.{Eight, FiftySix}

-- how many bytes a message has
abbrev pub bytes_of : Size → ℕ
bytes_of Eight = 8
bytes_of FiftySix = 56

-- how many words the longest batch takes, of so many messages
abbrev pub least_ring_words : ℕ → ℕ
least_ring_words batch = 1 + MOST_MESSAGE_WORDS * batch
