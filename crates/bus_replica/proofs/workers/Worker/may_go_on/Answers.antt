use Rattle.bus_replica.specs.Causes.{Unasked, SaidYes}
use Rattle.bus_replica.proofs.workers.Worker.may_go_on.Goals as goal

pub returns-then-has_sent-clause-yes : goal.returns-then-has_sent-clause-yes
returns-then-has_sent-clause-yes g c = λ said. Unasked

pub returns-clause-yes : goal.returns-clause-yes
returns-clause-yes g c = λ said.
    SaidYes c.args.go_on.now c.go_on.new.self Unasked c.if-not-go_on.ensures
