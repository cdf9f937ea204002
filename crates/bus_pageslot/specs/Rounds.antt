-- How a receiver goes round the cells of its log.
use Rattle.std.specs.Prelude.{◌≡◌, ◌⊎◌, ℕ, ◌+◌, ◌%◌, ◌<◌, ◌≤◌, ◌^◌}
use Rattle.bus_batch.specs.Reading.{words_left}
use Rattle.bus_pageslot.specs.declared.listeners.Listener.{Listener}
use Rattle.bus_pageslot.specs.declared.listeners.LogCells.{LogCells}

-- a log has a cell, and its cells lie where a number of 64 bits tells any of them
pub record HasRoom (cells : LogCells) : Type 0 where
  pub some : 0 < cells.log_words
  pub few : cells.log + cells.log_words ≤ 2 ^ 63

-- Its frame was begun: all words of it that are left are known, and no round ends among them.
pub record HasSpan (l : Listener) : Type 0 where
  pub some : 0 < words_left l.reader.frames.place
  pub span : l.reader.place + words_left l.reader.frames.place ≤ l.limit

-- A round of the log begins at a place that lives in the first cell. Those from there up to the
-- limit have their cells a shift behind them, modulo 2^64. The limit is the length that is known,
-- or the end of this round.
pub record GoesRound (l : Listener) : Type 0 where
  pub room : HasRoom l.cells
  pub begin : ℕ
  pub first : begin % l.cells.log_words ≡ 0
  pub shift : (begin + l.shift) % 2 ^ 64 ≡ l.cells.log
  pub behind : begin ≤ l.reader.place
  pub before : l.reader.place ≤ l.limit
  pub known : l.limit ≤ l.reader.known
  pub within : l.limit ≤ begin + l.cells.log_words
  pub last : (l.limit ≡ l.reader.known) ⊎ (l.limit ≡ begin + l.cells.log_words)
