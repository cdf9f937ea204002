use Rattle.bus_machine.proofs.Refused.RefusalLaws.{answers_refused, numbers_refused}
use Rattle.bus_machine.proofs.laws.answers_refuse.Goals as goal

pub returns-clause-turns : goal.returns-clause-turns
returns-clause-turns g c machine log number sender actions =
    answers_refused machine log number sender actions

pub returns-clause-numbers : goal.returns-clause-numbers
returns-clause-numbers g c = numbers_refused
