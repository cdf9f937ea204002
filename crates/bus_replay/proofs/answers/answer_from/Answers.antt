use Rattle.std.proofs.Common.{ap, string_bytes}
use Rattle.bus_tenure.specs.Elections.{election_with}
use Rattle.bus_machine.specs.Machine.{no_machine_trails}
use Rattle.bus_replay.specs.Answers.{seats_at_first}
use Rattle.bus_replay.proofs.PlayLemmas.{held_on, closed, stopped, none_answered}
use Rattle.bus_replay.proofs.SizeLemmas.{opened_holds}
use Rattle.bus_replay.proofs.answers.answer_from.Goals as goal

pub play-requires : goal.play-requires
play-requires g c =
    let X =
    election_with g.Q.Machine.kind_of g.Q.Machine.op g.Q.Machine.fed g.Q.Ratifier.protocol in
    let begins =
    opened_holds X g.Q.Ratifier.protocol c.args.first c.args.bus c.shape-shape.result.log_words
    c.seats.result c.shape-shape.result.receivers c.in_ok-history.history c.requires
    (ap (λ s. s.log_words) c.shape-shape.ensures) c.seats.ensures
    (ap (λ s. s.receivers) c.shape-shape.ensures)
    c.in_ok-history.ensures in
    (no_machine_trails, seats_at_first c.args.first, begins, none_answered _ _)

pub push_closing-requires : goal.push_closing-requires
push_closing-requires g c =
    let X =
    election_with g.Q.Machine.kind_of g.Q.Machine.op g.Q.Machine.fed g.Q.Ratifier.protocol in
    let begins =
    opened_holds X g.Q.Ratifier.protocol c.args.first c.args.bus c.shape-shape.result.log_words
    c.seats.result c.shape-shape.result.receivers c.in_ok-history.history c.requires
    (ap (λ s. s.log_words) c.shape-shape.ensures) c.seats.ensures
    (ap (λ s. s.receivers) c.shape-shape.ensures)
    c.in_ok-history.ensures in
    held_on X g.Q.Ratifier.protocol c.args.bus c.play.new.bus c.in_ok-history.history
    c.play.new.history c.args.lines c.in_ok-play.field-0 (seats_at_first c.args.first)
    (string_bytes c.new-text.result) (string_bytes c.play.new.text) c.in-Done.is begins
    c.in_ok-play.ensures

pub returns-in-Done : goal.returns-in-Done
returns-in-Done g c =
    let X =
    election_with g.Q.Machine.kind_of g.Q.Machine.op g.Q.Machine.fed g.Q.Ratifier.protocol in
    let begins =
    opened_holds X g.Q.Ratifier.protocol c.args.first c.args.bus c.shape-shape.result.log_words
    c.seats.result c.shape-shape.result.receivers c.in_ok-history.history c.requires
    (ap (λ s. s.log_words) c.shape-shape.ensures) c.seats.ensures
    (ap (λ s. s.receivers) c.shape-shape.ensures)
    c.in_ok-history.ensures in
    closed X g.Q.Ratifier.protocol c.args.bus c.play.new.bus c.in_ok-history.history
    c.play.new.history c.args.lines c.in_ok-play.field-0 (seats_at_first c.args.first)
    (string_bytes c.new-text.result) (string_bytes c.play.new.text)
    (string_bytes c.push_closing.new.text) c.in-Done.is c.new-text.ensures.bytes begins
    c.in_ok-play.ensures c.in_ok-push_closing-in-Done.ensures

pub returns : goal.returns
returns g c =
    let X =
    election_with g.Q.Machine.kind_of g.Q.Machine.op g.Q.Machine.fed g.Q.Ratifier.protocol in
    stopped X g.Q.Ratifier.protocol c.args.bus c.play.new.bus c.in_ok-history.history
    c.play.new.history c.args.lines c.in_ok-play.field-0 (seats_at_first c.args.first)
    (string_bytes c.new-text.result) (string_bytes c.play.new.text) c.in-Refused.is
    c.new-text.ensures.bytes c.in_ok-play.ensures
