use Rattle.std.proofs.Common.{◌<◌, length, sym, ap, subst, ◌∙◌}
use Rattle.bus_tenure.specs.Elections.{election_with}
use Rattle.bus_world.specs.Playing.{event_told}
use Rattle.bus_machine.specs.Machine.{trails_grown}
use Rattle.bus_replay.specs.Histories.{IsHistoryOf, kept_after}
use Rattle.bus_replay.proofs.HistoryLemmas.{capacity_some, log_within, receiver_there, holds_on}
use Rattle.bus_replay.proofs.playing.step_noted.Goals as goal

pub note-requires : goal.note-requires
note-requires g c =
    let X =
    election_with g.Q.Machine.kind_of g.Q.Machine.op g.Q.Machine.fed g.Q.Ratifier.protocol in
    let P = g.Q.Ratifier.protocol in
    let old = c.args.bus.now in
    let new = c.step.new.self in
    let law = c.published_words_stand.ensures in
    let h = c.args.history.now in
    let e = event_told c.args.event.now in
    let a = c.in-Ok.answer in
    let d = c.in-Ok.ensures.answered.happens in
    let held = c.requires in
    record {
      some = capacity_some X P old new law h held.0 held.1 e a d held.2;
      within = subst (λ l. h.capacity < length l) (sym c.words.ensures)
          (log_within X P old new law h held.0 held.1 e a d held.2);
      there = receiver_there X P old new law h held.0 held.1 e a d held.2;
    }

pub returns-clause-noted : goal.returns-clause-noted
returns-clause-noted g c =
    let X =
    election_with g.Q.Machine.kind_of g.Q.Machine.op g.Q.Machine.fed g.Q.Ratifier.protocol in
    let e = event_told c.args.event.now in
    λ trails taken held.
    subst (λ h. IsHistoryOf X g.Q.Ratifier.protocol c.step.new.self h
    (trails_grown X c.args.bus.now e c.in-Ok.answer trails) taken)
    (sym (c.in_ok-note.ensures
    ∙ ap (λ l. kept_after l e c.in-Ok.answer c.args.history.now) c.words.ensures))
    (holds_on X g.Q.Ratifier.protocol c.args.bus.now c.step.new.self
    c.published_words_stand.ensures c.args.history.now trails taken e c.in-Ok.answer
    c.in-Ok.ensures.answered.happens held)
