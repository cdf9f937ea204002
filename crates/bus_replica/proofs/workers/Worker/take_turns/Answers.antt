use Rattle.std.proofs.Common.{false, inl, inr, subst}
use Rattle.bus_automaton.specs.ThreeWordBuses.{process}
use Rattle.bus_replica.specs.Causes.{tells, WasAnswered}
use Rattle.bus_replica.proofs.workers.Worker.take_turns.Goals as goal

pub returns-in-Some-Closed-clause-cause : goal.returns-in-Some-Closed-clause-cause
returns-in-Some-Closed-clause-cause g c =
    inr (inl (subst (λ t. WasAnswered process tells false c.args.self.now.sender t
    c.attempt.new.self.sender) c.in-Some-Closed.field-0-is c.in-Some-Closed.ensures.answered))

pub returns-in-Some-Left-clause-cause : goal.returns-in-Some-Left-clause-cause
returns-in-Some-Left-clause-cause g c =
    inr (inr (inl (
      c.in-Some-Left.field-0-0,
      subst
          (λ t. WasAnswered process tells false c.args.self.now.sender t c.attempt.new.self.sender)
          c.in-Some-Left.field-0-is c.in-Some-Left.ensures.answered,
    )))

pub returns-in-Some-Spent-clause-cause : goal.returns-in-Some-Spent-clause-cause
returns-in-Some-Spent-clause-cause g c =
    subst (λ t. WasAnswered process tells false c.args.self.now.sender t c.attempt.new.self.sender)
    c.in-Some-Spent.field-0-is c.in-Some-Spent.ensures.answered
