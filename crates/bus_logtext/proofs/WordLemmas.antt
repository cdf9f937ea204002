-- Lines of words, read one by one.
use Rattle.std.proofs.Common.{ℕ, List, ◌++◌, Result, Ok, Err}
use Rattle.bus_logtext.specs.declared.faults.Refusal.{Refusal}

-- the words in front, and then those behind them, if they are not refused
abbrev pub after_words : List ℕ → Result (List ℕ) Refusal → Result (List ℕ) Refusal
after_words front (Err refusal) = Err refusal
after_words front (Ok back) = Ok (front ++ back)
