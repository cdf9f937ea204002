use Rattle.std.proofs.Common.{ℕ, Bool, ◌-◌, sym, ◌∙◌, inl, inr, arith}
use Rattle.bus_tenure.specs.Elections.{election_with}
use Rattle.bus_world.specs.Playing.{event_told}
use Rattle.bus_machine.specs.Machine.{Trails, trails_grown}
use Rattle.bus_machine.specs.Playing.{Answers, Refused}
use Rattle.bus_replay.specs.Histories.{IsHistoryOf}
use Rattle.bus_replay.proofs.RepeatLemmas.{when_ok, when_err, not_refused, once, once_more}
use Rattle.bus_replay.proofs.RepeatLemmas.{at_last}
use Rattle.bus_replay.proofs.playing.repeat.Goals as goal
use Rattle.bus_replay.proofs.playing.repeat.Goals.{then-loop-more-test+else-goes_on}
use Rattle.bus_replay.proofs.playing.repeat.Goals.{else-loop-more-test}

pub loop-more-init : goal.loop-more-init
loop-more-init g c =
    let X =
    election_with g.Q.Machine.kind_of g.Q.Machine.op g.Q.Machine.fed g.Q.Ratifier.protocol in
    let P = g.Q.Ratifier.protocol in
    let e = event_told c.args.event.now in
    let old = c.args.bus.now in
    let new = c.step_noted.new in
    once X P e old c.args.history.now (c.args.times - 1) c.in-Ok.answer new.bus new.history
    (when_ok (λ a. Answers X P old e a new.bus) c.in_ok-answer.field-0 c.in-Ok.answer c.in-Ok.is
    c.in_ok-answer.ensures.answered)
    (when_ok (λ a. (T : Trails) (taken : ℕ → Bool) → IsHistoryOf X P old c.args.history.now T taken
    → IsHistoryOf X P new.bus new.history (trails_grown X old e a T) taken) c.in_ok-answer.field-0
    c.in-Ok.answer c.in-Ok.is c.in_ok-answer.ensures.noted)

pub step_noted-requires-in-loop-more : goal.step_noted-requires-in-loop-more
step_noted-requires-in-loop-more g c =
    let X =
    election_with g.Q.Machine.kind_of g.Q.Machine.op g.Q.Machine.fed g.Q.Ratifier.protocol in
    let so_far = c.loop-more.invariant in
    let held = c.requires.held in (
      trails_grown X so_far.before (event_told c.args.event.now) c.loop-more.last
          (so_far.grown held.0),
      held.1,
      so_far.holds held.0 held.1 held.2,
    )

pub returns-in-Err-2-clause-fault : goal.returns-in-Err-2-clause-fault
returns-in-Err-2-clause-fault g c =
    let X =
    election_with g.Q.Machine.kind_of g.Q.Machine.op g.Q.Machine.fed g.Q.Ratifier.protocol in
    let so_far = c.loop-more.invariant in
    let e = event_told c.args.event.now in
    absurd (not_refused X so_far.before c.loop-more.bus e c.loop-more.last c.in-Err-2.fault
    so_far.answered.happens (sym c.goes_on.ensures ∙ c.if-goes_on.true)
    (when_err (Refused c.loop-more.bus e) c.in_ok-answer-2.field-0 c.in-Err-2.fault c.in-Err-2.is
    c.in_ok-answer-2.ensures.fault))

pub loop-more-preserved : goal.loop-more-preserved
loop-more-preserved g c =
    let X =
    election_with g.Q.Machine.kind_of g.Q.Machine.op g.Q.Machine.fed g.Q.Ratifier.protocol in
    let P = g.Q.Ratifier.protocol in
    let e = event_told c.args.event.now in
    let mid = c.loop-more.bus in
    let kept = c.loop-more.history in
    let new = c.step_noted-in-loop-more.new in
    once_more X P e c.args.bus.now c.args.history.now (c.args.times - 1) c.loop-more.more
    c.loop-more.last c.in-Ok-2.answer mid new.bus kept new.history c.loop-more.invariant
    (omega arith) (sym c.goes_on.ensures ∙ c.if-goes_on.true)
    (when_ok (λ a. Answers X P mid e a new.bus) c.in_ok-answer-2.field-0 c.in-Ok-2.answer
    c.in-Ok-2.is c.in_ok-answer-2.ensures.answered)
    (when_ok (λ a. (T : Trails) (taken : ℕ → Bool) → IsHistoryOf X P mid kept T taken
    → IsHistoryOf X P new.bus new.history (trails_grown X mid e a T) taken)
    c.in_ok-answer-2.field-0
    c.in-Ok-2.answer c.in-Ok-2.is c.in_ok-answer-2.ensures.noted)

pub returns-clause-last : goal.returns-clause-last
returns-clause-last g c =
    let X =
    election_with g.Q.Machine.kind_of g.Q.Machine.op g.Q.Machine.fed g.Q.Ratifier.protocol in
    at_last X g.Q.Ratifier.protocol (event_told c.args.event.now) c.args.bus.now
    c.args.history.now (c.args.times - 1) c.loop-more.more c.loop-more.last c.loop-more.bus
    c.loop-more.history c.loop-more.invariant (elim c.loop-more-test.branch [
      | then-loop-more-test+else-goes_on w ↦ inr (sym w.goes_on.ensures ∙ w.if-goes_on.false)
      | else-loop-more-test w ↦ inl (omega (arith, w.loop-more-test.false))
    ])
