use Rattle.std.proofs.Common.{string_bytes, refl}
use Rattle.bus_tenure.specs.Elections.{election_with}
use Rattle.bus_replay.proofs.PlayLemmas.{none_played, one_played, all_played, one_refused}
use Rattle.bus_replay.proofs.playing.play.Goals as goal

pub loop-line-init : goal.loop-line-init
loop-line-init g c =
    let X =
    election_with g.Q.Machine.kind_of g.Q.Machine.op g.Q.Machine.fed g.Q.Ratifier.protocol in
    none_played X g.Q.Ratifier.protocol c.args.bus.now c.args.history.now c.args.lines
    (string_bytes c.args.text.now) (string_bytes c.args.text.now) refl

pub obey-requires : goal.obey-requires
obey-requires g c =
    let so_far = c.loop-line.invariant in
    let held = c.requires in (
      so_far.grown held.0,
      so_far.seated held.1,
      (so_far.holds held.0 held.1 held.2 held.3).0,
    )

pub loop-line-preserved : goal.loop-line-preserved
loop-line-preserved g c =
    let X =
    election_with g.Q.Machine.kind_of g.Q.Machine.op g.Q.Machine.fed g.Q.Ratifier.protocol in
    one_played X g.Q.Ratifier.protocol c.args.bus.now c.args.history.now c.args.lines
    c.loop-line.lines c.next_line.new.self (c.in-Some.line.number, c.in-Some.line.bytes.now)
    (string_bytes c.args.text.now) (string_bytes c.loop-line.text) (string_bytes c.obey.new.text)
    c.loop-line.bus c.obey.new.bus c.loop-line.history c.obey.new.history c.in_ok-obey.field-0
    c.loop-line.invariant c.in-Some.ensures.some c.in-Done.is c.in_ok-obey.ensures

pub returns-in-Refused : goal.returns-in-Refused
returns-in-Refused g c =
    let X =
    election_with g.Q.Machine.kind_of g.Q.Machine.op g.Q.Machine.fed g.Q.Ratifier.protocol in
    one_refused X g.Q.Ratifier.protocol c.args.bus.now c.args.history.now c.args.lines
    c.loop-line.lines c.next_line.new.self (c.in-Some.line.number, c.in-Some.line.bytes.now)
    (string_bytes c.args.text.now) (string_bytes c.loop-line.text) (string_bytes c.obey.new.text)
    c.loop-line.bus c.obey.new.bus c.loop-line.history c.obey.new.history c.in_ok-obey.field-0
    c.loop-line.invariant c.in-Some.ensures.some c.in-Refused.is c.in_ok-obey.ensures

pub returns : goal.returns
returns g c =
    let X =
    election_with g.Q.Machine.kind_of g.Q.Machine.op g.Q.Machine.fed g.Q.Ratifier.protocol in
    all_played X g.Q.Ratifier.protocol c.args.bus.now c.args.history.now c.args.lines
    c.loop-line.lines (string_bytes c.args.text.now) (string_bytes c.loop-line.text)
    c.loop-line.bus c.loop-line.history c.loop-line.invariant c.in_default.ensures.none
