-- Messages that a sender has put and that are not in the order yet.
use Rattle.std.specs.Prelude.{ℕ, true, false, List, []}
use Rattle.bus_tenure.specs.Core.{Core}
use Rattle.bus_tenure.specs.declared.phases.Phase.{Phase}
use Rattle.bus_tenure.specs.declared.phases.Phase.TheVariants as phase

-- Its batch, but while its frame is published. (Where it gives the page back for another reason its
-- batch waits again with that step.)
abbrev pub waiting_at : {E : Type 0} → Core E → Phase E → List (List ℕ)
waiting_at c phase.Resting = c.queue.messages
waiting_at c (phase.Electing t e) = c.queue.messages
waiting_at c (phase.Taken t) = c.queue.messages
waiting_at c (phase.Holding t page stored true) = []
waiting_at c (phase.Holding t page stored false) = c.queue.messages
waiting_at c (phase.Giving t reason) = []
