use Rattle.bus_replica.proofs.PageLaws.{zeros_at}
use Rattle.bus_replica.proofs.pages.numbers_before.Goals as goal

pub returns-in-None : goal.returns-in-None
returns-in-None c = λ sender low. rw (c.in-None.is) (zeros_at 64 sender)
