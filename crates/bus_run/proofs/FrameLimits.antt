-- The frames of the log that a run leaves have no more messages than a batch of its bus.
use Rattle.std.proofs.Common.{◌≡◌, ℕ, ◌≤◌, List, All, length, sym, subst, ◌∙◌}
use Rattle.bus_automaton.specs.Buses.{automaton_with}
use Rattle.bus_batch.specs.Frames.{Frame, AreFrames, AreFramesOf, items_of, log_words}
use Rattle.bus_batch.proofs.FrameLaws.{same_log}
use Rattle.bus_batch.proofs.LimitLaws.{frames_of_fewer}
use Rattle.bus_pageslot.specs.Outcomes.{Outcome}
use Rattle.bus_receiver.specs.Hearing.{Hearing}
use Rattle.bus_register.specs.declared.limits.TheConstants.{MOST_MESSAGES}
use Rattle.bus_world.specs.declared.shapes.Shape.{Shape}
use Rattle.bus_run.specs.Reports.{IsRunReport}

pub few_left : (shape : Shape) (messages : ℕ) (left : Outcome) (heards : List Hearing)
    → IsRunReport shape messages left heards → (frames : List Frame)
    → AreFrames shape.senders frames → log_words frames ≡ left.log
    → AreFramesOf shape.batch shape.senders frames
unfolding automaton_with
few_left shape messages left heards made frames lawful words =
    let l = made.left_behind.left in
    let s = l.promised.spelled in
    let same : s.frames ≡ frames =
    same_log shape.senders 0 0 s.frames frames s.lawful lawful
    (s.words_are ∙ l.published ∙ sym words) in
    frames_of_fewer MOST_MESSAGES shape.batch shape.senders 0 frames lawful
    (subst (All (λ f. length (items_of f) ≤ shape.batch)) same l.promised.few)
