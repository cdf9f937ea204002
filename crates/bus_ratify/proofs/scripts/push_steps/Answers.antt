use Rattle.std.proofs.Common.{sym, subst, ◌∙◌, List, ℕ}
use Rattle.bus_ratify.proofs.StepLemmas.{TakesSteps, TakesSteps-one, TakesSteps-stranger}
use Rattle.bus_ratify.proofs.scripts.push_steps.Goals as goal

pub loop-word-preserved-in-Continue-1 : goal.loop-word-preserved-in-Continue-1
loop-word-preserved-in-Continue-1 c =
    TakesSteps-one c.args.processes c.in-Some-number_of.process c.in-Some.words c.next_word.new.self
    c.in-Some-next_word.word.now c.loop-word.is_empty c.loop-word.are_known
    c.args.schedule.now.items c.loop-word.schedule.items c.push.new.self.items
    (subst (λ (w : List (List ℕ)). TakesSteps c.args.processes c.in-Some.words w
    c.loop-word.is_empty c.loop-word.are_known c.args.schedule.now.items c.loop-word.schedule.items)
    c.in-Some-next_word.ensures.some c.loop-word.invariant)
    (sym c.number_of.ensures ∙ c.in-Some-number_of.is) c.if-process-processes.true
    c.in_ok-push.ensures.items

pub loop-word-preserved : goal.loop-word-preserved
loop-word-preserved c =
    TakesSteps-stranger c.args.processes c.in-Some-number_of.process c.in-Some.words
    c.next_word.new.self c.in-Some-next_word.word.now c.loop-word.is_empty c.loop-word.are_known
    c.args.schedule.now.items c.loop-word.schedule.items
    (subst (λ (w : List (List ℕ)). TakesSteps c.args.processes c.in-Some.words w
    c.loop-word.is_empty c.loop-word.are_known c.args.schedule.now.items c.loop-word.schedule.items)
    c.in-Some-next_word.ensures.some c.loop-word.invariant)
    (sym c.number_of.ensures ∙ c.in-Some-number_of.is) c.if-process-processes.false
