use Rattle.std.proofs.Common.{◌-◌, ◌∙◌, sym, inl, inr, arith, string_bytes}
use Rattle.bus_tenure.specs.Elections.{election_with}
use Rattle.bus_world.specs.Playing.{event_told}
use Rattle.bus_replay.proofs.RepeatLemmas.{not_refused}
use Rattle.bus_trace.specs.Rows.{row_text}
use Rattle.bus_trace.specs.Words.{sizes_told}
use Rattle.bus_trace.specs.Told.{row_told}
use Rattle.bus_trace.proofs.RowLemmas.{row_is, grown_one}
use Rattle.bus_trace.proofs.RepeatRows.{once, once_more, at_last}
use Rattle.bus_trace.proofs.playing.trace_event.Goals as goal

pub loop-more-init : goal.loop-more-init
loop-more-init g c =
    let X =
    election_with g.Q.Machine.kind_of g.Q.Machine.op g.Q.Machine.fed g.Q.Ratifier.protocol in
    let p = sizes_told c.args.memory_map in
    let e = event_told c.args.event.now in
    let told = c.in-Ok.ensures in
    let seen = c.in-Ok.told.0 in
    let last = c.in-Ok.told.1 in
    let old = c.args.bus.now in
    let put = c.in_ok-push_row.ensures in
    record {
      counted = put.counted;
      repeated = once X g.Q.Ratifier.protocol p c.args.line e old (c.args.times - 1)
          (string_bytes c.args.sheet.now.text)
          c.args.sheet.now.lines last c.step_shown.new.bus (string_bytes c.push_row.new.sheet.text)
          c.push_row.new.sheet.lines told.answered
          (grown_one (string_bytes c.args.sheet.now.text) (string_bytes c.push_row.new.sheet.text)
          c.args.sheet.now.lines
          c.push_row.new.sheet.lines (row_told p c.args.line e seen last)
          (row_text p X c.args.line old e last)
          (row_is p X c.args.line old c.step_shown.new.bus e last told.answered.happens seen
          told.seen) put.text put.lines);
    }

pub returns-in-Err-step_shown-clause-repeated : goal.returns-in-Err-step_shown-clause-repeated
returns-in-Err-step_shown-clause-repeated g c =
    let X =
    election_with g.Q.Machine.kind_of g.Q.Machine.op g.Q.Machine.fed g.Q.Ratifier.protocol in
    let so_far = c.loop-more.invariant.repeated in
    absurd (not_refused X so_far.before c.loop-more.bus (event_told c.args.event.now)
    c.loop-more.last c.in-Err-step_shown.fault
    so_far.answered.happens (sym c.goes_on.ensures ∙ c.if-goes_on.true)
    c.in-Err-step_shown.ensures.refused.refused)

pub loop-more-preserved : goal.loop-more-preserved
loop-more-preserved g c =
    let X =
    election_with g.Q.Machine.kind_of g.Q.Machine.op g.Q.Machine.fed g.Q.Ratifier.protocol in
    let p = sizes_told c.args.memory_map in
    let e = event_told c.args.event.now in
    let told = c.in-Ok-step_shown.ensures in
    let seen = c.in-Ok-step_shown.told.0 in
    let last = c.in-Ok-step_shown.told.1 in
    let mid = c.loop-more.bus in
    let put = c.in_ok-push_row-2.ensures in
    record {
      counted = put.counted;
      repeated = once_more X g.Q.Ratifier.protocol p c.args.line e c.args.bus.now (c.args.times - 1)
          (string_bytes c.args.sheet.now.text)
          c.args.sheet.now.lines c.loop-more.more c.loop-more.last last mid
          c.step_shown-in-loop-more.new.bus
          (string_bytes c.loop-more.sheet.text) c.loop-more.sheet.lines
          (string_bytes c.push_row-in-loop-more.new.sheet.text)
          c.push_row-in-loop-more.new.sheet.lines c.loop-more.invariant.repeated
          (let some = c.loop-more-test.true in omega arith)
          (sym c.goes_on.ensures ∙ c.if-goes_on.true) told.answered
          (grown_one (string_bytes c.loop-more.sheet.text)
          (string_bytes c.push_row-in-loop-more.new.sheet.text) c.loop-more.sheet.lines
          c.push_row-in-loop-more.new.sheet.lines (row_told p c.args.line e seen last)
          (row_text p X c.args.line mid e last)
          (row_is p X c.args.line mid c.step_shown-in-loop-more.new.bus e last told.answered.happens
          seen told.seen) put.text put.lines);
    }

pub returns-else-goes_on-clause-repeated : goal.returns-else-goes_on-clause-repeated
returns-else-goes_on-clause-repeated g c =
    let X =
    election_with g.Q.Machine.kind_of g.Q.Machine.op g.Q.Machine.fed g.Q.Ratifier.protocol in
    let r = at_last X g.Q.Ratifier.protocol (sizes_told c.args.memory_map) c.args.line
    (event_told c.args.event.now) c.args.bus.now
    (c.args.times - 1) (string_bytes c.args.sheet.now.text) c.args.sheet.now.lines c.loop-more.more
    c.loop-more.last c.loop-more.bus
    (string_bytes c.loop-more.sheet.text) c.loop-more.sheet.lines c.loop-more.invariant.repeated
    (inr (sym c.goes_on.ensures ∙ c.if-goes_on.false)) in
    (c.loop-more.last, r.0, r.1)

pub returns-after-loop-more-clause-repeated : goal.returns-after-loop-more-clause-repeated
returns-after-loop-more-clause-repeated g c =
    let X =
    election_with g.Q.Machine.kind_of g.Q.Machine.op g.Q.Machine.fed g.Q.Ratifier.protocol in
    let r = at_last X g.Q.Ratifier.protocol (sizes_told c.args.memory_map) c.args.line
    (event_told c.args.event.now) c.args.bus.now
    (c.args.times - 1) (string_bytes c.args.sheet.now.text) c.args.sheet.now.lines c.loop-more.more
    c.loop-more.last c.loop-more.bus
    (string_bytes c.loop-more.sheet.text) c.loop-more.sheet.lines c.loop-more.invariant.repeated
    (inl (let none = c.loop-more-test.false in omega arith)) in
    (c.loop-more.last, r.0, r.1)
