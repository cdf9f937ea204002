use Rattle.bus_machine.proofs.Refused.RefusalLaws.{says_more}
use Rattle.bus_machine.proofs.Memory.SameActions.{says_no_more}
use Rattle.bus_machine.proofs.laws.same_actions_say_no_more.Goals as goal

pub returns-clause-same : goal.returns-clause-same
returns-clause-same c t before after same = says_no_more t before after same

pub returns-clause-more : goal.returns-clause-more
returns-clause-more c t before after = says_more t before after
