-- What a receiver took.
use Rattle.std.specs.Prelude.{◌≡◌, ℕ, ◌<◌, slice_index}
use Rattle.bus_receiver.specs.Hearing.{Hearing}

-- so many items of each of so many senders
abbrev pub HasEach : ℕ → ℕ → Hearing → Type 0
HasEach senders messages heard = (s : ℕ) → s < senders → slice_index heard.counts s ≡ messages
