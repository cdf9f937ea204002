-- The random words that a run's senders draw.
use Rattle.std.specs.Prelude.{ℕ, ◌++◌, replicate}
use Rattle.std.specs.Int.{w64, to_le_bytes}
use Rattle.rand_chacha.specs.ChaCha.{ChaCha, of_seed}

-- the key is the seed in 8 bytes, the lowest first, and 24 zero bytes; each sender has a stream of
-- its own
abbrev pub generator_of : ℕ → ℕ → ChaCha
generator_of seed sender =
    record (of_seed (to_le_bytes w64 seed ++ replicate 24 0)) { stream = sender }
