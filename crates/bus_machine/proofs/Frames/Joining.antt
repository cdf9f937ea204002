-- With each event what was published grows by the words that join it, which are those of a frame or
-- none.
use Rattle.std.proofs.Common.{◌≡◌, ℕ, ◌++◌, refl, sym, arith}
use Rattle.std.proofs.lemmas.List.{append-nil}
use Rattle.std.proofs.lemmas.Grind.{common_steps}
use Rattle.bus_tenure.specs.Core.{Election}
use Rattle.bus_tenure.specs.declared.turns.Turn.{Turn as Answered}
use Rattle.bus_core.specs.Senders.{Situation, Does, Announces, Validates, Unpins, Withdraws, Scans}
use Rattle.bus_core.specs.Senders.{Clears, ReadsPassed}
use Rattle.bus_core.specs.Table.{Line}
use Rattle.bus_world.specs.Headline.{IsPrefix}
use Rattle.bus_world.specs.World.{Event, Put, Ask, Turn, Recv, Stop, Gone}
use Rattle.bus_world.specs.declared.events.Answer.{Answer}
use Rattle.bus_machine.specs.Machine.{Machine, Trails, Happens, trails_grown, turn_trails}
use Rattle.bus_machine.specs.Machine.{log_grown}
use Rattle.bus_machine.specs.Promise.{words_joined}

-- what a turn adds to the log is what its line publishes, in each situation
pub turn_log :
    {E : Type 0} (z : Situation E) (l : Line E) (s got word : ℕ) (told : Answered) (T : Trails)
    → (turn_trails z l s got word told T).log ≡ log_grown l T.log
turn_log (Does z) l s got word told T = refl
turn_log (Announces t) l s got word told T = refl
turn_log (Validates t) l s got word told T = refl
turn_log (Unpins t) l s got word told T = refl
turn_log (Withdraws t) l s got word told T = refl
turn_log (Scans r) l s got word told T = refl
turn_log (Clears r) l s got word told T = refl
turn_log (ReadsPassed t p) l s got word told T = refl

-- with each event the log of the trails grows by the words that join
pub joins :
    {E : Type 0} (X : Election E) (m m' : Machine E) (e : Event) (a : Answer) (T : Trails)
    → Happens X m e a m' → (trails_grown X m e a T).log ≡ T.log ++ words_joined X m e
joins X m m' (Put s bytes) a T h = sym (append-nil T.log)
joins X m m' (Ask s mark) a T h = sym (append-nil T.log)
joins {E} X m m' (Turn s word) a T h = grind (arith, common_steps, turn_log)
joins X m m' (Recv r) a T h = sym (append-nil T.log)
joins X m m' (Stop s) a T h = sym (append-nil T.log)
joins X m m' (Gone r) a T h = sym (append-nil T.log)

-- so it begins with what it was
pub grows :
    {E : Type 0} (X : Election E) (m m' : Machine E) (e : Event) (a : Answer) (T : Trails)
    → Happens X m e a m' → IsPrefix T.log (trails_grown X m e a T).log
grows X m m' e a T h =
    record { rest = words_joined X m e; together = sym (joins X m m' e a T h) }
