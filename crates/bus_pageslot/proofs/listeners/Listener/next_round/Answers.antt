use Rattle.std.proofs.Common.{◌≡◌, inl, inr, ℕ, ◌+◌, ◌-◌, ◌^◌, arith}
use Rattle.std.proofs.lemmas.Bool.{cases_lt}
use Rattle.bus_pageslot.proofs.Hears.Rounds.{shifted_back, next_begins, round_over}
use Rattle.bus_pageslot.proofs.listeners.Listener.next_round.Goals as goal

pub returns-clause-round : goal.returns-clause-round
returns-clause-round c =
    let h = c.requires.round in
    let l = c.args.self.now in
    let words : ℕ = l.cells.log_words in
    let at : l.reader.place ≡ h.begin + words =
    round_over l h c.requires.over c.requires.below in
    let place = c.place-place.ensures.place in
    let known = c.known.ensures in
    let least = c.min.ensures in
    let over = c.requires.over in
    let most = h.known in
    let few = h.room.few in
    record {
      room = h.room;
      begin = h.begin + words;
      first = next_begins h.begin words h.first;
      shift = shifted_back h.begin l.shift l.cells.log words (2 ^ 64) h.shift (omega arith);
      behind = (omega arith);
      before = (omega arith);
      known = (omega arith);
      within = (omega arith);
      last = elim (cases_lt (c.known.result - c.place-place.result) words) [
        | inl all ↦ inl (omega arith)
        | inr round ↦ inr (omega arith)
      ];
    }
